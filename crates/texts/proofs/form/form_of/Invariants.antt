use Rattle.std.proofs.Common.{◌≡◌, ◌≤◌, length, take}
use Rattle.texts.specs.Forms.{FormSoFar}
use Rattle.texts.proofs.form.form_of.Given as goal

abbrev pub invariant-loop-blank : goal.invariant-loop-blank
invariant-loop-blank l = (l.count ≤ 8) × (length l.values ≡ 8) × FormSoFar l.line l.letter (take l.count l.values) l.rest

abbrev pub decreases-loop-blank : goal.decreases-loop-blank
decreases-loop-blank l = length l.rest
