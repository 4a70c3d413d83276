use Rattle.std.proofs.Common.{◌≡◌, ◌∙◌, [], ◌++◌, ◌-◌, ◌^◌, Bool, List, ℕ, ℤ, ap, cond, min, string_bytes, sym}
use Rattle.std.proofs.lemmas.Result.{IfOk-weaker}
use Rattle.xb_measured.specs.declared.heard.Heard.{Heard}
use Rattle.xb_measured.specs.Receivers.{listed}
use Rattle.xb_measured.specs.ButtonBlocks.{digit_blocks}
use Rattle.xb_measured.specs.ButtonLines.{buttons_line}
use Rattle.xb_rx.specs.Listeners.{HasListened, buttons_text, has_kp, has_kp_with}
use Rattle.xb_rx.proofs.Listened.{kp-before, kp-more}
use Rattle.xb_rx.proofs.listener.Listener.buttons_text.Goals as goal

pub returns-then-has_kp : goal.returns-then-has_kp
returns-then-has_kp c = λ samples keys has.
    let kp : has_kp (keys ++ listed c.args.last) ≡ _ =
    sym (kp-more keys c.args.last) ∙ ap (λ (b : Bool). has_kp_with b c.args.last) (sym has.kp)
    ∙ sym c.has_kp_with-has_kp.ensures ∙ c.if-has_kp.true in
    c.new.ensures.bytes
    ∙ ap (λ (b : Bool). cond b [] (buttons_line (min (digit_blocks samples) (2 ^ 64 - 1)))) (sym kp)

pub returns-else-has_kp : goal.returns-else-has_kp
returns-else-has_kp c =
    IfOk-weaker c.buttons_line.result
    (λ text. string_bytes text ≡ buttons_line c.blocks-else-has_kp.result)
    (λ text. (samples : List ℤ) (keys : List Heard) → HasListened c.args.self.now samples keys
    → string_bytes text ≡ buttons_text samples (keys ++ listed c.args.last))
    (λ text e samples keys has.
    let none : has_kp (keys ++ listed c.args.last) ≡ _ =
    sym (kp-more keys c.args.last) ∙ ap (λ (b : Bool). has_kp_with b c.args.last) (sym has.kp)
    ∙ sym c.has_kp_with-has_kp.ensures ∙ c.if-has_kp.false in
    let before : has_kp keys ≡ _ = kp-before (has_kp keys) c.args.last (kp-more keys c.args.last ∙ none) in
    e ∙ ap (λ (n : ℕ). buttons_line n) (c.blocks-else-has_kp.ensures ∙ (has.pressed before).blocks)
    ∙ ap (λ (b : Bool). cond b [] (buttons_line (min (digit_blocks samples) (2 ^ 64 - 1)))) (sym none))
    c.buttons_line.ensures
