use Rattle.std.proofs.Common.{rules, ◌≡◌, ◌++◌, ◌∷◌, [], codes, ap, sym, ◌∙◌, append_assoc}
use Rattle.std.proofs.lemmas.Result.{on_ok_weaker}
use Rattle.json.specs.Token.{begin_object}
use Rattle.xb_json.specs.Keys.{digits_text}
use Rattle.xb_clock.specs.Clocks.{text_in}
use Rattle.xb_live.specs.EventObjects.{digit_object}
use Rattle.xb_live.specs.EventTokens.{dialled_tokens, name_tokens, time_tokens, tokens_at}
use Rattle.xb_live.proofs.EventTokens.{digit_tokens}
use Rattle.xb_live.proofs.events.write_digit.Goals as goal

pub returns-clause-tokens : goal.returns-clause-tokens
returns-clause-tokens c =
    let old = c.args.out.now.tokens in
    let heard = c.args.heard.now in
    let time = time_tokens (text_in c.args.time.now) heard.at in
    let dialled = dialled_tokens (digits_text heard.dialled) c.args.digit in
    let name = name_tokens (codes "DIGIT") c.args.line in
    let text : c.deref.result.now ≡ digits_text heard.dialled = search rules in
    let begun : c.begin_object.new.self.tokens ≡ old ++ begin_object ∷ [] = c.in_ok-begin_object.ensures.ok in
    let timed : c.write_time.new.out.tokens ≡ (old ++ begin_object ∷ []) ++ time =
    c.in_ok-write_time.ensures.tokens ∙ ap (λ ts. ts ++ time) begun in
    let said : c.write_dialled.new.out.tokens ≡ ((old ++ begin_object ∷ []) ++ time) ++ dialled =
    c.in_ok-write_dialled.ensures.tokens
    ∙ ap (λ t. c.write_time.new.out.tokens ++ dialled_tokens t c.args.digit) text
    ∙ ap (λ ts. ts ++ dialled) timed in
    let whole : (((old ++ begin_object ∷ []) ++ time) ++ dialled) ++ name
    ≡ old ++ tokens_at (text_in c.args.time.now) (digit_object c.args.line heard.at heard.dialled c.args.digit) =
    append_assoc ((old ++ begin_object ∷ []) ++ time) dialled name
    ∙ append_assoc (old ++ begin_object ∷ []) time (dialled ++ name)
    ∙ append_assoc old (begin_object ∷ []) (time ++ (dialled ++ name))
    ∙ ap (λ ts. old ++ ts) (sym (digit_tokens (text_in c.args.time.now) c.args.line heard.at heard.dialled c.args.digit)) in
    on_ok_weaker c.write_name.result (λ is. is ∙ ap (λ ts. ts ++ name) said ∙ whole) c.write_name.ensures.tokens
