use Rattle.std.proofs.Common.{ap, string_bytes, ◌∙◌, ◌++◌}
use Rattle.std.proofs.lemmas.Result.{on_ok_weaker}
use Rattle.xb_contact.specs.Listening.{told_at_end}
use Rattle.xb_contact.specs.Ringing.{all_rung, piece_rung}
use Rattle.xb_contact.specs.Seizing.{all_passed}
use Rattle.xb_loop.proofs.PassedTexts.{both_rung, end_written, text}
use Rattle.xb_loop.proofs.contact.ContactFollowCommon.end.Goals as goal

pub returns : goal.returns
returns c =
    let listener = c.self.inside.listener in
    let ringer = c.self.inside.ringer in
    let first = c.end-first.result.0 in
    let last = c.end-first.result.1 in
    let next = c.write_passed.new.ringer in
    let told = told_at_end listener in
    on_ok_weaker c.write_given.result
    (λ written.
    end_written c.args.line (string_bytes c.args.text.now) (string_bytes c.write_passed.new.rows)
    (string_bytes c.write_passed-2.new.rows) (string_bytes c.write_given.new.rows) c.self.inside.seizer
    c.write_passed.new.seizer c.write_passed-2.new.seizer (piece_rung ringer first) (piece_rung next last) c.end.result
    (all_rung ringer told) (both_rung ringer next first last told c.end-first.ensures c.write_passed.ensures.rung)
    c.write_passed.ensures.past c.write_passed-2.ensures.past
    c.end.ensures c.in_ok-write_passed.ensures.rows c.in_ok-write_passed-2.ensures.rows written
    ∙ ap (λ v. string_bytes c.args.text.now
    ++ text c.args.line (all_passed v.seizing (all_rung v.ringing (told_at_end v.heard))))
    c.self.view_is)
    c.write_given.ensures
