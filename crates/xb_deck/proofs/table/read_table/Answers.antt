use Rattle.std.proofs.Common.{sym, subst, arith}
use Rattle.std.proofs.lemmas.Result.{IfOk-weaker}
use Rattle.xb_deck.specs.Tables.{IsCutAfter}
use Rattle.xb_deck.proofs.TableLines.{end_read, none_read, on_success, so_far-cut, so_far-line, so_far-long, so_far-none}
use Rattle.xb_deck.proofs.table.read_table.Goals as goal

pub returns-then-is_cut-clause-table : goal.returns-then-is_cut-clause-table
returns-then-is_cut-clause-table g c =
    let lf = end_read (g.R.Read.remaining c.loop-reader.reader) (g.R.Read.remaining c.read_byte.new.reader) _ _ c.in-Some-eq10.is c.in-Some-eq10.field-0-test c.in_ok-read_byte.ensures in
    let cut = so_far-cut (g.R.Read.remaining c.args.reader.now) c.loop-reader.table.items c.loop-reader.line.items (g.R.Read.remaining c.loop-reader.reader) (g.R.Read.remaining c.read_byte.new.reader) c.loop-reader.invariant.so_far
    lf c.loop-reader.invariant.no_end (rw c.deref.ensures.value at (sym c.if-is_cut.ensures)) in
    IfOk-weaker c.within.result _ _ (λ t e. subst (λ items. IsCutAfter items (g.R.Read.remaining c.args.reader.now) (g.R.Read.remaining c.read_byte.new.reader)) (sym e) cut) c.within.ensures.same

pub loop-reader-preserved-else-is_err : goal.loop-reader-preserved-else-is_err
loop-reader-preserved-else-is_err g c =
    let so_far = c.loop-reader.invariant in
    let lf = end_read (g.R.Read.remaining c.loop-reader.reader) (g.R.Read.remaining c.read_byte.new.reader) _ _ c.in-Some-eq10.is c.in-Some-eq10.field-0-test c.in_ok-read_byte.ensures in
    let line = so_far-line (g.R.Read.remaining c.args.reader.now) c.loop-reader.table.items c.loop-reader.line.items (g.R.Read.remaining c.loop-reader.reader) (g.R.Read.remaining c.read_byte.new.reader) so_far.so_far
    lf so_far.no_end (rw c.deref.ensures.value at (sym c.if-is_cut.ensures)) in
    let table_is = on_success c.end_line.result c.if-is_err.ensures.value c.end_line.ensures.table in
    let line_is = on_success c.end_line.result c.if-is_err.ensures.value c.end_line.ensures.line in
    rw (table_is, line_is) (record { so_far = line; no_end = λ k d below. absurd (omega (arith, below)) })

pub returns-in-None-clause-fault : goal.returns-in-None-clause-fault
returns-in-None-clause-fault g c =
    let end = none_read (g.R.Read.remaining c.loop-reader.reader) (g.R.Read.remaining c.read_byte.new.reader) _ c.in-None.is c.in_ok-read_byte.ensures in
    so_far-none (g.R.Read.remaining c.args.reader.now) c.loop-reader.table.items c.loop-reader.line.items (g.R.Read.remaining c.loop-reader.reader) (g.R.Read.remaining c.read_byte.new.reader) c.loop-reader.invariant.so_far end c.loop-reader.invariant.no_end
    (rw c.deref-in-None.ensures.value at (sym c.if-is_cut-2.ensures))

pub returns-clause-fault : goal.returns-clause-fault
returns-clause-fault g c =
    so_far-long c.args.most (g.R.Read.remaining c.args.reader.now) c.loop-reader.table.items c.loop-reader.line.items (g.R.Read.remaining c.loop-reader.reader) c.loop-reader.invariant.so_far c.loop-reader.invariant.no_end
    (omega (arith, c.saturating_add-reach.ensures, c.loop-reader-test.false, c.len.ensures, c.len-in-loop-reader.ensures, c.loop-reader.table.ok, c.loop-reader.line.ok, c.loop-reader.table.small, c.loop-reader.line.small))
