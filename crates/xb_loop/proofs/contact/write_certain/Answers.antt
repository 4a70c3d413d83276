use Rattle.std.proofs.Common.{string_bytes}
use Rattle.std.proofs.lemmas.Result.{on_ok_weaker}
use Rattle.xb_contact.specs.Machine.{pieces_of}
use Rattle.xb_loop.proofs.PassedTexts.{three_written}
use Rattle.xb_loop.proofs.contact.write_certain.Goals as goal

pub returns : goal.returns
returns c =
    on_ok_weaker c.write_given-3.result
    (three_written c.args.line (string_bytes c.args.rows.now) (string_bytes c.write_given.new.rows)
    (string_bytes c.write_given-2.new.rows) (string_bytes c.write_given-3.new.rows) (pieces_of c.args.certain.first)
    (pieces_of c.args.certain.second) (pieces_of c.args.certain.third) c.in_ok-write_given.ensures
    c.in_ok-write_given-2.ensures)
    c.write_given-3.ensures
