use Rattle.std.proofs.Common.{◌≡◌, ◌∷◌, [], rules, true}
use Rattle.std.proofs.lemmas.Result.{on_ok_weaker}
use Rattle.xb_recording.specs.Says.{TakesText, is_text}
use Rattle.xb_recording.proofs.RefusedLemmas.{keeps_text}
use Rattle.xb_recording.proofs.reader.Reader.take_byte.Goals as goal

pub returns-clause-refusals : goal.returns-clause-refusals
returns-clause-refusals c =
    let old = c.args.self.now in
    let new = c.take_letter.new.self in
    let said = c.take_letter.new.events.items in
    let text : is_text old.source ≡ true = search rules in
    on_ok_weaker c.take_letter.result
    (λ (taken : TakesText old new (c.args.byte ∷ []) said). keeps_text old new (c.args.byte ∷ []) said text taken)
    c.take_letter.ensures.said
