-- A bench with a past: what it is sure of, and that a step of the rules is one more of its past.
use Rattle.std.proofs.Common.{◌≡◌, ℕ, List, ◌∷◌, Option, arith}
use Rattle.books.specs.Book.{Lawful}
use Rattle.slots.specs.States.{State}
use Rattle.slots.specs.Steps.{Step}
use Rattle.slots.specs.Runs.{Answered, Run}
use Rattle.slots.specs.Guarantees.{InOrder}
use Rattle.slots.specs.declared.calls.Call.{Call}
use Rattle.slots.specs.declared.calls.Answer.{Answer}
use Rattle.slots.specs.declared.position.Position.{Position}
use Rattle.slots.proofs.Holds.{delays_hold}
use Rattle.bench.specs.Benches.{Kinds, rows_in, state_of, Course, Promised}
use Rattle.bench.specs.declared.bench.Bench.{Bench}

-- a bench with other parts that change
abbrev pub moved : {B S : Type 0} → Bench B S → B → S → Position → Option ℕ → Option ℕ → Bench B S
moved x book buffer position released started = record {
  bus = x.bus;
  rows = x.rows;
  starts = x.starts;
  sizes = x.sizes;
  book = book;
  buffer = buffer;
  position = position;
  released = released;
  started = started;
}

module _ {B S : Type 0} (k : Kinds B S) (lawful : Lawful k.book) (from : State k.book) (past : List Answered) (x : Bench B S)
    (course : Course k from past x) where
  pub order : InOrder x.bus (rows_in x) k.book from (state_of k x)
  order = (delays_hold k.book lawful x.bus (rows_in x) from course.set past (state_of k x) course.run).1

  pub goes_on : (c : Call) (a : Answer) (book : B) (buffer : S) (position : Position) (released started : Option ℕ) → k.sound buffer
      → ((f : ℕ) → (k.buffer buffer).places f ≡ (k.buffer x.buffer).places f)
      → Step x.bus (rows_in x) k.book (state_of k x) c a (state_of k (moved x book buffer position released started))
      → Promised k from past x c a (moved x book buffer position released started)
  goes_on c a book buffer position released started sound places step =
      let y = moved x book buffer position released started in
      let run = Run.one_more course.run step in
      let held = delays_hold k.book lawful x.bus (rows_in x) from course.set (record { call = c; answer = a } ∷ past) (state_of k y) run in
      record {
        step = step;
        course = record {
          set = course.set;
          enough = λ f. omega (arith, course.enough f, places f);
          sound = sound;
          starts = course.starts;
          sizes = course.sizes;
          run = run;
        };
        places = places;
        guarantee = held.0;
        in_order = held.1;
      }
