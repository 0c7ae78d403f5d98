use Rattle.buffers.specs.Runs.{Step}
use Rattle.buffers.proofs.runs.answer.Goals as goal

pub returns-in-Put : goal.returns-in-Put
returns-in-Put g c = rw c.in-Put.is (record { step = λ sound. Step.put (c.put.ensures.effect sound); sound = c.put.ensures.sound })

pub returns-in-Take : goal.returns-in-Take
returns-in-Take g c = rw c.in-Take.is (record { step = λ sound. Step.take (c.take.ensures.effect sound); sound = c.take.ensures.sound })
