-- A post that wants an item of an empty ring is idle.
use Rattle.std.proofs.Common.{◌≡◌, Result, Ok, Err, IfOk, List, [], ◌∷◌, ◌++◌, length, get_or, length-append, refl, sym, ap, ◌∙◌, subst, ⊎_elim, append_assoc, arith}
use Rattle.rtrb.specs.Ring.{sent, received}
use Rattle.xb_flow.specs.declared.flow.Flow.{Flow}
use Rattle.xb_branches.specs.declared.gathered.Gathered.{Gathered}
use Rattle.xb_branches.specs.declared.gathered.Gathered.TheVariants.{Wants, One, Closing, Ends, Over}
use Rattle.xb_flow.specs.declared.post.Post.{Post}
use Rattle.xb_flow.specs.declared.post.Post.TheVariants as posts
use Rattle.xb_flow.specs.declared.turn.Turn.{Turn}
use Rattle.xb_flow.specs.declared.turn.Turn.TheVariants.{Idle, Blocked, Moved, Ended}
use Rattle.xb_branches.specs.DealSteps.{CanSend}
use Rattle.xb_branches.specs.GatherSteps.{Awaits, CanGather}
use Rattle.xb_replay.specs.Turns.{Takes, StationWaits, StationMoves, Waits, HasNoRoom, Moves, HasEnded, IsTurn, HasTurned}
use Rattle.xb_run.specs.Posts.{Input, StationPost, Posts}
use Rattle.xb_replay.specs.World.{World}
use Rattle.xb_replay.proofs.Prefixes.{no_sender}

not_longer : {X : Type 0} (xs rest : List X) (x : X) → xs ≡ xs ++ x ∷ rest → ⊥
not_longer xs rest x e = let n = ap length e ∙ length-append xs (x ∷ rest) in omega (arith, n)

-- nothing is received of an empty ring
nothing_to_take : {T : Type 0} (up : List (Flow T)) (a b : Input T) → received a ≡ up → Takes up a b → ⊥
nothing_to_take up a b all took = not_longer (received a) took.1 took.0 (all ∙ took.2)

station_waits : {S I O : Type 0} (up : List (Flow I)) (a b : StationPost S I O) → StationWaits up a → StationMoves up a b → ⊥
station_waits up a b waits moves =
    ⊎_elim
    (λ took. nothing_to_take up a.consumer b.consumer waits.1 took.0)
    (λ gave. cc (sym waits.0 ∙ gave.3))
    moves

awaits_not_sends : {T : Type 0} (held : Gathered T) → Awaits held → CanGather held → ⊥
awaits_not_sends Wants a c = c
awaits_not_sends (One x) a c = a
awaits_not_sends (Closing first) a c = c
awaits_not_sends Ends a c = a
awaits_not_sends Over a c = a

-- a post that wants an item holds none
holds_nothing : (w : Posts) (post : Post) → Waits w post → HasNoRoom w post → ⊥
holds_nothing w posts.Feed waits room = waits
holds_nothing w posts.Pulse waits room = room.0 waits.0
holds_nothing w posts.Register waits room = room.0 waits.0
holds_nothing w posts.Translate waits room = room.0 waits.0
holds_nothing w posts.Deal waits room = subst CanSend waits.0 room.0
holds_nothing w (posts.Send j) waits room = (room.1 (no_sender w)).0 (waits room.0 w.translate.producer (no_sender w)).0
holds_nothing w posts.Gather waits room = awaits_not_sends w.gather.held waits.0 room.0
holds_nothing w posts.Tape waits room = room

makes_none : (old new : Posts) (post : Post) → Waits old post → Moves old post new → ⊥
makes_none old new posts.Feed waits moves = waits
makes_none old new posts.Pulse waits moves = station_waits (sent old.feed.producer) old.pulse new.pulse waits moves
makes_none old new posts.Register waits moves = station_waits (sent old.pulse.producer) old.register new.register waits moves
makes_none old new posts.Translate waits moves = station_waits (sent old.register.producer) old.translate new.translate waits moves
makes_none old new posts.Deal waits moves =
    ⊎_elim
    (λ took. nothing_to_take (sent old.translate.producer) old.deal.consumer new.deal.consumer waits.1 took.0)
    (λ gave. subst CanSend waits.0 gave.3)
    moves
makes_none old new (posts.Send j) waits moves =
    let s = no_sender old in
    let p = old.translate.producer in
    station_waits (sent (get_or old.deal.producers j p)) (get_or old.senders j s) (get_or new.senders j s) (waits moves.0 p s) (moves.1 p s)
makes_none old new posts.Gather waits moves =
    let s = no_sender old in
    let c = old.tape.consumer in
    ⊎_elim
    (λ took. let more = took.2 s c in not_longer _ more.0 took.0 (waits.2 s c ∙ (sym more.1 ∙ append_assoc _ (took.0 ∷ []) more.0)))
    (λ gave. awaits_not_sends old.gather.held waits.0 gave.3)
    moves
makes_none old new posts.Tape waits moves = nothing_to_take (sent old.gather.producer) old.tape.consumer new.tape.consumer waits moves

pub only-idle : (old new : Posts) (post : Post) (turn : Turn) → IsTurn old post turn new → Waits old post → (HasEnded old post → ⊥) → turn ≡ Idle
only-idle old new post Idle t waits going = refl
only-idle old new post Blocked t waits going = absurd (holds_nothing old post waits t.0)
only-idle old new post Moved t waits going = absurd (makes_none old new post waits t)
only-idle old new post Ended t waits going = absurd (going t.0)

pub turned-idle : {E : Type 0} (old new : World) (post : Post) (result : Result Turn E) → IfOk result (λ turn. HasTurned old post turn new)
    → IfOk result (λ turn. Waits old.posts post → (HasEnded old.posts post → ⊥) → turn ≡ Idle)
turned-idle old new post (Ok turn) turned = only-idle old.posts new.posts post turn turned.event
turned-idle old new post (Err error) turned = tt
