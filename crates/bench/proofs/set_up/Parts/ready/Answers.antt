use Rattle.std.proofs.Common.{refl, rules}
use Rattle.bench.specs.SetUps.{Unready}
use Rattle.bench.proofs.set_up.Parts.ready.Goals as goal

pub returns-in-Some : goal.returns-in-Some
returns-in-Some g c =
    let lowest = c.in-Some.ensures in
    λ listed sound. rw (c.refuses.ensures, c.from.ensures) (record {
      place = refl;
      why = Unready.few (record {
        within = lowest.0;
        here = let met = lowest.1 in search rules;
        below = λ m within l. let unmet = lowest.2 m within l in search rules;
      });
    })

pub returns-in-Some-lowest : goal.returns-in-Some-lowest
returns-in-Some-lowest g c =
    let lowest = c.in-Some-lowest.ensures in
    λ listed sound. rw (c.refuses-in-Some-lowest.ensures, c.from-in-Some-lowest.ensures) (record {
      place = refl;
      why = Unready.waiting (λ m within. let unmet = c.in_default.ensures m within in search rules) (record {
        within = lowest.0;
        here = let met = lowest.1 in search rules;
        below = λ m within l. let unmet = lowest.2 m within l in search rules;
      });
    })

pub returns-in-Some-lowest-2 : goal.returns-in-Some-lowest-2
returns-in-Some-lowest-2 g c =
    let lowest = c.in-Some-lowest-2.ensures in
    λ listed sound. rw (c.refuses-in-Some-lowest-2.ensures, c.from-in-Some-lowest-2.ensures) (record {
      place = refl;
      why = Unready.released (λ m within. let unmet = c.in_default.ensures m within in search rules)
          (λ m within. let unmet = c.in_default-lowest.ensures m within in search rules) (record {
            within = lowest.0;
            here = let met = lowest.1 in search rules;
            below = λ m within l. let unmet = lowest.2 m within l in search rules;
          });
    })

pub returns : goal.returns
returns g c = λ listed sound. record {
  places = λ m within. let unmet = c.in_default.ensures m within in search rules;
  empty = λ m within. let unmet = c.in_default-lowest.ensures m within in search rules;
  fresh = λ m within. let unmet = c.in_default-lowest-2.ensures m within in search rules;
}
