-- What a whole turn leaves of the world.
use Rattle.std.proofs.Common.{◌≡◌, ◌↔◌, ℕ, ◌<◌, length, get_or, Result, Ok, Err, IfOk, OnErr, sym, ap, subst}
use Rattle.rtrb.specs.Ring.{sent}
use Rattle.xb_model.specs.declared.on.On.{On}
use Rattle.xb_model.specs.declared.order.Order.{Order}
use Rattle.xb_flow.specs.declared.post.Post.{Post}
use Rattle.xb_flow.specs.declared.post.Post.TheVariants.{Send, Tape}
use Rattle.xb_flow.specs.declared.turn.Turn.{Turn}
use Rattle.xb_flow.specs.declared.turn.Turn.TheVariants.{Ended}
use Rattle.xb_replay.specs.Turns.{SameRecords, Waits, HasNoRoom, Moves, HasEnded, Stays, OthersStay, IsTurn, HasTurned, HasRefused}
use Rattle.xb_run.specs.Posts.{Output, SenderPost}
use Rattle.xb_replay.specs.World.{World}
use Rattle.xb_replay.proofs.Events.{Turned, is-turn, ok_same, StationTurned, sender-turned}
use Rattle.xb_replay.proofs.Others.{EachOther, others-stay}

pub has-turned : (old new : World) (post : Post) (turn : Turn) → SameRecords old new
    → Turned (Waits old.posts post) (HasNoRoom old.posts post) (Moves old.posts post new.posts) (HasEnded old.posts post) (Stays old.posts post new.posts) turn
    → (turn ≡ Ended) ↔ HasEnded old.posts post → EachOther post old.posts new.posts → HasTurned old post turn new
has-turned old new post turn records t ended each = record {
  records = records;
  event = is-turn old.posts post turn new.posts t;
  ended = ended;
  others = others-stay post old.posts new.posts each;
}

-- the turn of a sender that is there
pub sender-has-turned : (old new : World) (j : ℕ) (turn : Turn) → j < length old.posts.senders → SameRecords old new
    → ((p : Output (On Order)) (s : SenderPost) → StationTurned (sent (get_or old.posts.deal.producers j p)) (get_or old.posts.senders j s) (get_or new.posts.senders j s) turn)
    → (turn ≡ Ended) ↔ HasEnded old.posts (Send j) → EachOther (Send j) old.posts new.posts → HasTurned old (Send j) turn new
sender-has-turned old new j turn there records t ended each =
    has-turned old new (Send j) turn records (sender-turned old.posts new.posts j there turn t) ended each

module _ {E : Type 0} (old new : World) (records : SameRecords old new) (each : EachOther Tape old.posts new.posts) (result : Result Turn E)
    (ended : (result ≡ Ok Ended) ↔ HasEnded old.posts Tape) where
  -- the turn of the tape station
  pub tape-has-turned : IfOk result (Turned (Waits old.posts Tape) (HasNoRoom old.posts Tape) (Moves old.posts Tape new.posts) (HasEnded old.posts Tape) (Stays old.posts Tape new.posts))
      → IfOk result (λ turn. HasTurned old Tape turn new)
  tape-has-turned = at result ended
    where
      at : (r : Result Turn E) → (r ≡ Ok Ended) ↔ HasEnded old.posts Tape
          → IfOk r (Turned (Waits old.posts Tape) (HasNoRoom old.posts Tape) (Moves old.posts Tape new.posts) (HasEnded old.posts Tape) (Stays old.posts Tape new.posts))
          → IfOk r (λ turn. HasTurned old Tape turn new)
      at (Ok turn) h t = has-turned old new Tape turn records t (λ e. h.0 (ap Ok e), λ over. ok_same turn Ended (h.1 over)) each
      at (Err error) h t = tt

  pub tape-has-refused : OnErr result (Stays old.posts Tape new.posts) → OnErr result (HasRefused old new)
  tape-has-refused = at result ended
    where
      at : (r : Result Turn E) → (r ≡ Ok Ended) ↔ HasEnded old.posts Tape → OnErr r (Stays old.posts Tape new.posts) → OnErr r (HasRefused old new)
      at (Ok turn) h t = tt
      at (Err error) h t = record { records = records; stays = t; going = λ over. cc (h.1 over); others = others-stay Tape old.posts new.posts each }

-- what callers see of any turn
module _ {E : Type 0} (old new : World) (post : Post) where
  pub same-records : (result : Result Turn E) → IfOk result (λ turn. HasTurned old post turn new)
      → OnErr result ((post ≡ Tape) × HasRefused old new) → SameRecords old new
  same-records (Ok turn) turned refused = turned.records
  same-records (Err error) turned refused = refused.1.records

  pub turned-event : (result : Result Turn E) → IfOk result (λ turn. HasTurned old post turn new) → IfOk result (λ turn. IsTurn old.posts post turn new.posts)
  turned-event (Ok turn) turned = turned.event
  turned-event (Err error) turned = tt

  pub turned-ended : (result : Result Turn E) → IfOk result (λ turn. HasTurned old post turn new)
      → OnErr result ((post ≡ Tape) × HasRefused old new) → (result ≡ Ok Ended) ↔ HasEnded old.posts post
  turned-ended (Ok turn) turned refused = (λ e. turned.ended.0 (ok_same turn Ended e), λ over. ap Ok (turned.ended.1 over))
  turned-ended (Err error) turned refused = (λ e. absurd (cc e), λ over. absurd (refused.1.going (subst (HasEnded old.posts) refused.0 over)))

  pub turned-refused : (result : Result Turn E) → OnErr result ((post ≡ Tape) × HasRefused old new) → OnErr result ((post ≡ Tape) × Stays old.posts post new.posts)
  turned-refused (Ok turn) refused = tt
  turned-refused (Err error) refused = (refused.0, subst (λ p. Stays old.posts p new.posts) (sym refused.0) refused.1.stays)

  pub turned-others : (result : Result Turn E) → IfOk result (λ turn. HasTurned old post turn new)
      → OnErr result ((post ≡ Tape) × HasRefused old new) → OthersStay old.posts post new.posts
  turned-others (Ok turn) turned refused = turned.others
  turned-others (Err error) turned refused = subst (λ p. OthersStay old.posts p new.posts) (sym refused.0) refused.1.others
