use Rattle.std.proofs.Common.{◌≡◌, ◌∙◌, [], ◌++◌, Bool, List, ℤ, ap, cond, string_bytes, sym}
use Rattle.std.proofs.lemmas.Result.{IfOk-weaker}
use Rattle.xb_measured.specs.declared.heard.Heard.{Heard}
use Rattle.xb_measured.specs.Receivers.{listed}
use Rattle.xb_measured.specs.Meters.{Metered, metered, quiet_line}
use Rattle.xb_rx.specs.Listeners.{HasListened, is_keyed, is_keyed_with, loudness_text}
use Rattle.xb_rx.proofs.Listened.{keyed-more}
use Rattle.xb_rx.proofs.listener.Listener.loudness_text.Goals as goal

pub returns-then-is_keyed : goal.returns-then-is_keyed
returns-then-is_keyed c = λ samples keys has.
    let keyed : is_keyed (keys ++ listed c.args.last) ≡ _ =
    sym (keyed-more keys c.args.last) ∙ ap (λ (b : Bool). is_keyed_with b c.args.last) (sym has.keyed)
    ∙ sym c.is_keyed_with-is_keyed.ensures ∙ c.if-is_keyed.true in
    c.new.ensures.bytes ∙ ap (λ (b : Bool). cond b [] (quiet_line (metered samples))) (sym keyed)

pub returns-else-is_keyed : goal.returns-else-is_keyed
returns-else-is_keyed c =
    IfOk-weaker c.quiet_line.result
    (λ text. string_bytes text ≡ quiet_line c.args.self.now.meter)
    (λ text. (samples : List ℤ) (keys : List Heard) → HasListened c.args.self.now samples keys
    → string_bytes text ≡ loudness_text samples (keys ++ listed c.args.last))
    (λ text e samples keys has.
    let unkeyed : is_keyed (keys ++ listed c.args.last) ≡ _ =
    sym (keyed-more keys c.args.last) ∙ ap (λ (b : Bool). is_keyed_with b c.args.last) (sym has.keyed)
    ∙ sym c.is_keyed_with-is_keyed.ensures ∙ c.if-is_keyed.false in
    e ∙ ap (λ (m : Metered). quiet_line m) has.metered
    ∙ ap (λ (b : Bool). cond b [] (quiet_line (metered samples))) (sym unkeyed))
    c.quiet_line.ensures
