-- Queues by frame number: what they mean, and when they are sound.
use Rattle.std.specs.Prelude.{◌≡◌, ℕ, true, List, [], map, vec_items, slice_index, slice_index_or}
use Rattle.std.specs.List.{AllByRecursion}
use Rattle.ranked.specs.Ranks.{Ascending}
use Rattle.buffers.specs.Buffer.{Meaning, upto, sendable}
use Rattle.buffers.specs.declared.instance.Instance.{Instance}
use Rattle.buffers.specs.declared.ranked_buffer.queue.FrameQueue.{FrameQueue}

-- The places of a frame: those of its queue.
abbrev pub places_in : List FrameQueue → ℕ → ℕ
places_in qs f = slice_index (map (λ q. q.places) qs) f

-- What waits for a frame: its queue's list.
abbrev pub waiting_in : List FrameQueue → ℕ → List Instance
waiting_in qs f = slice_index_or (map (λ q. vec_items q.list) qs) f []

-- What the queues mean.
abbrev pub meaning_of : List FrameQueue → Meaning
meaning_of qs = record { places = places_in qs; waiting = waiting_in qs }

-- Each queue stands in the order of priority and holds values in range only, and frame 0 has no places.
pub record SoundQueues (qs : List FrameQueue) : Type 0 where
  pub ordered : (f : ℕ) → Ascending upto (waiting_in qs f)
  pub in_range : (f : ℕ) → AllByRecursion (λ x. sendable x ≡ true) (waiting_in qs f)
  pub spare : places_in qs 0 ≡ 0
