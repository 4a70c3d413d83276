use Rattle.std.proofs.Common.{◌≡◌, ◌++◌, Bool, ℕ, List, ap, not, rules, ◌∙◌}
use Rattle.std.proofs.lemmas.Result.{on_ok_weaker}
use Rattle.std.specs.Prelude.{◌&&◌}
use Rattle.xb_samples.specs.declared.tail.Tail.{Tail}
use Rattle.xb_samples.specs.Tails.{chunks_left}
use Rattle.xb_samples.proofs.TailLemmas.{known_stays, tail_passes}
use Rattle.xb_samples.proofs.tail.Tail.take.Goals as goal

pub returns-then-not-self-clause-taken : goal.returns-then-not-self-clause-taken
returns-then-not-self-clause-taken c = λ text.
    let old = c.args.self.now in
    known_stays old.is_known (not (chunks_left old text)) (not (chunks_left old (c.args.bytes.now ++ text))) (search rules)

pub returns-clause-taken : goal.returns-clause-taken
returns-clause-taken c =
    let old : Tail = c.args.self.now in
    let new : Tail = c.take_bytes.new.self in
    let bytes : List ℕ = c.args.bytes.now in
    let rest : List ℕ = c.bytes_from-rest.result.now in
    on_ok_weaker c.take_bytes.result
    (λ (taken : (text : List ℕ) → chunks_left new text ≡ chunks_left (record old { left = c.saturating_sub-self.result }) (rest ++ text)).
    λ text. ap (λ (k : Bool). k && not (chunks_left new text)) c.take_bytes.ensures.known
    ∙ ap (λ (x : Bool). old.is_known && not x)
    (taken text ∙ tail_passes old c.saturating_sub-self.result bytes rest text c.saturating_sub-self.ensures c.bytes_from-rest.ensures))
    c.take_bytes.ensures.taken
