-- The threads of the posts, before and after they are started.
use Rattle.std.specs.Prelude.{◌≡◌, ◌≤◌, ℕ, [], vec_capacity, Result, Ok, Err}
use Rattle.std.specs.declared.thread.PromisedHandle.{PromisedHandle}
use Rattle.xb_run.specs.declared.running.Room.{Room}
use Rattle.xb_run.specs.declared.start.Promised.{Promised}

-- nothing is there, and there is room for so many senders
pub record HasRoom (senders : ℕ) (room : Room) : Type 0 where
  pub none_started : room.started.items ≡ []
  pub none_done : room.done.items ≡ []
  pub for_started : senders ≤ vec_capacity room.started
  pub for_done : senders ≤ vec_capacity room.done

-- what came of the start of a post is its thread, or what is promised of what it gives back
abbrev pub IsStarted : {P D : Type 0} → (P → D → Type 0) → P → Result (PromisedHandle D (Promised P D)) D → Type 0
IsStarted promised post (Ok handle) = handle.promise.made.value ≡ post
IsStarted promised post (Err done) = promised post done
