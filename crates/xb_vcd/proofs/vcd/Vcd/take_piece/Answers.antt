use Rattle.std.proofs.Common.{sym, ◌∙◌}
use Rattle.std.proofs.lemmas.Result.{IfErr-weaker, on_ok_weaker}
use Rattle.xb_vcd.specs.VcdChanges.{vcd_state}
use Rattle.xb_vcd.proofs.EventLemmas.{piece_event}
use Rattle.xb_vcd.proofs.VcdLemmas.{piece_adds}
use Rattle.xb_vcd.proofs.vcd.Vcd.take_piece.Goals as goal

pub returns-clause-said : goal.returns-clause-said
returns-clause-said c =
    on_ok_weaker c.take_word.result
    (piece_adds (vcd_state c.args.self.now) (vcd_state c.take_word.new.self) c.args.piece.now c.args.events.now.items
    c.take_word.new.events.items (sym c.is_empty.ensures ∙ c.if-is_empty.false))
    c.take_word.ensures.said

pub returns-clause-memory : goal.returns-clause-memory
returns-clause-memory c =
    IfErr-weaker c.take_word.result _ _
    (λ refusal memory is. piece_event (vcd_state c.args.self.now) c.args.piece.now
    (sym c.is_empty.ensures ∙ c.if-is_empty.false) (memory is))
    c.take_word.ensures.memory
