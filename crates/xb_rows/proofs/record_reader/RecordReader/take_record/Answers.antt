use Rattle.std.proofs.Common.{[], Some, None}
use Rattle.xb_rows.specs.StreamBytes.{bytes_left}
use Rattle.xb_rows.specs.Kept.{three_if}
use Rattle.xb_rows.specs.declared.fields.FieldEnd.TheVariants as end
use Rattle.xb_rows.specs.TakenFields.{TakesField, is_last}
use Rattle.xb_rows.proofs.TakenRecords.{IsJudged, TakesTwo, both-known, judged-end, judged-first, judged-last, judged-one, judged-second, once-known, takes-judged, takes-no_record, takes-two}
use Rattle.xb_rows.proofs.record_reader.RecordReader.take_record.Goals as goal

pub returns-in-Nowhere : goal.returns-in-Nowhere
returns-in-Nowhere g c =
    let s = c.args.self.now.state in
    let old = bytes_left g.R.Read.remaining c.args.self.now.bytes in
    let first = c.take_field.new in
    takes-no_record s first.state first.field.items None old (bytes_left g.R.Read.remaining first.bytes) None
    (rw c.in-Nowhere.is at c.in_ok-take_field.ensures.field)

pub returns-in-Record : goal.returns-in-Record
returns-in-Record g c =
    let s = c.args.self.now.state in
    let old = bytes_left g.R.Read.remaining c.args.self.now.bytes in
    let first = c.take_field.new in
    let one = bytes_left g.R.Read.remaining first.bytes in
    takes-judged s first.state None old one
    (once-known old one (TakesField s first.state first.field.items end.Record) (IsJudged s first.state None)
    (rw c.in-Record.is at c.in_ok-take_field.ensures.field)
    (λ text rest taken. judged-one s first.state first.field.items text rest taken))

pub returns-in-Long : goal.returns-in-Long
returns-in-Long g c =
    let s = c.args.self.now.state in
    let old = bytes_left g.R.Read.remaining c.args.self.now.bytes in
    let first = c.take_field.new in
    let one = bytes_left g.R.Read.remaining first.bytes in
    rw (c.clear.ensures, c.clear-2.ensures)
    (takes-judged s first.state (Some (first.field.items, [], [])) old one
    (once-known old one (TakesField s first.state first.field.items end.Long)
    (IsJudged s first.state (Some (first.field.items, [], [])))
    (rw c.in-Long.is at c.in_ok-take_field.ensures.field)
    (λ text rest taken. judged-first s first.state first.field.items text rest taken)))

pub returns-in-Long-2 : goal.returns-in-Long-2
returns-in-Long-2 g c =
    let s = c.args.self.now.state in
    let old = bytes_left g.R.Read.remaining c.args.self.now.bytes in
    let first = c.take_field.new in
    let second = c.take_field-2.new in
    let two = bytes_left g.R.Read.remaining second.bytes in
    rw c.clear-2.ensures
    (takes-judged s second.state (Some (first.field.items, second.field.items, [])) old two
    (both-known old (bytes_left g.R.Read.remaining first.bytes) two (TakesField s first.state first.field.items end.Comma)
    (TakesField first.state second.state second.field.items end.Long)
    (IsJudged s second.state (Some (first.field.items, second.field.items, [])))
    (rw c.in-Comma.is at c.in_ok-take_field.ensures.field) (rw c.in-Long-2.is at c.in_ok-take_field-2.ensures.field)
    (λ text part rest a b. judged-second s first.state second.state first.field.items second.field.items text part rest a b)))

pub returns-in_default : goal.returns-in_default
returns-in_default g c =
    let s = c.args.self.now.state in
    let old = bytes_left g.R.Read.remaining c.args.self.now.bytes in
    let first = c.take_field.new in
    let second = c.take_field-2.new in
    let two = bytes_left g.R.Read.remaining second.bytes in
    takes-judged s second.state None old two
    (both-known old (bytes_left g.R.Read.remaining first.bytes) two (TakesField s first.state first.field.items end.Comma)
    (TakesField first.state second.state second.field.items c.in_ok-take_field-2.field-0)
    (IsJudged s second.state None)
    (rw c.in-Comma.is at c.in_ok-take_field.ensures.field) c.in_ok-take_field-2.ensures.field
    (λ text part rest a b. judged-end s first.state second.state first.field.items second.field.items text part rest
    c.in_ok-take_field-2.field-0 c.in_default.not-Comma c.in_default.not-Long a b))

pub returns : goal.returns
returns g c =
    let s = c.args.self.now.state in
    let old = bytes_left g.R.Read.remaining c.args.self.now.bytes in
    let first = c.take_field.new in
    let second = c.take_field-2.new in
    let two = bytes_left g.R.Read.remaining second.bytes in
    let third = c.take_field-3.new in
    let three = bytes_left g.R.Read.remaining third.bytes in
    let kept = three_if (is_last c.in_ok-end.end) (first.field.items, second.field.items, third.field.items) in
    let both = both-known old (bytes_left g.R.Read.remaining first.bytes) two (TakesField s first.state first.field.items end.Comma)
    (TakesField first.state second.state second.field.items end.Comma)
    (TakesTwo s second.state first.field.items second.field.items)
    (rw c.in-Comma.is at c.in_ok-take_field.ensures.field) (rw c.in-Comma-2.is at c.in_ok-take_field-2.ensures.field)
    (λ text part rest a b. takes-two s first.state second.state first.field.items second.field.items text part rest a b) in
    rw c.is_last-kept.ensures
    (takes-judged s third.state kept old three
    (both-known old two three (TakesTwo s second.state first.field.items second.field.items)
    (TakesField second.state third.state third.field.items c.in_ok-end.end) (IsJudged s third.state kept) both
    c.in_ok-end.ensures.field
    (λ text part rest a b. judged-last s second.state third.state first.field.items second.field.items third.field.items
    text part rest c.in_ok-end.end a b)))
