-- The joint buffer: two buffers side by side. The left serves a frame for which it has places, the right the others.
use Rattle.std.specs.Prelude.{cond, nat_lt}
use Rattle.buffers.specs.Buffer.{Meaning}
use Rattle.buffers.specs.declared.joint.JointBuffer.{JointBuffer}

-- Of each frame, what the side says that serves it.
abbrev pub joined : Meaning → Meaning → Meaning
joined m n = record {
  places = λ f. cond (nat_lt 0 (m.places f)) (m.places f) (n.places f);
  waiting = λ f. cond (nat_lt 0 (m.places f)) (m.waiting f) (n.waiting f);
}

-- The meaning of both sides together.
abbrev pub sides : {L R : Type 0} → (L → Meaning) → (R → Meaning) → JointBuffer L R → Meaning
sides f g j = joined (f j.left) (g j.right)
