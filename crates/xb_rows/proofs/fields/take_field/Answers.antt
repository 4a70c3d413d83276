use Rattle.std.proofs.Common.{◌≡◌, ◌<◌, ◌++◌, ◌∷◌, [], length, true, false, arith, rules, sym, ◌∙◌, length-append, eqb-true}
use Rattle.std.proofs.lemmas.Bool.{eqb-false}
use Rattle.xb_rows.specs.StreamBytes.{bytes_left}
use Rattle.xb_rows.specs.declared.kept.TheConstants.{MOST_FIELD_BYTES}
use Rattle.xb_rows.proofs.TakenBytes.{reads-copy, reads-skip, takes-comma, takes-last, takes-long, takes-none, takes-record}
use Rattle.xb_rows.proofs.fields.take_field.Goals as goal
use Rattle.xb_rows.proofs.fields.take_field.Goals.{in-Skip, in-Copy+else-is_full}

pub returns-then-not-ends_record-clause-field : goal.returns-then-not-ends_record-clause-field
returns-then-not-ends_record-clause-field g c =
    let now = c.bytes in
    let end = rw c.in_default.is at c.in_ok-byte.ensures in
    let no : c.ends_record.result ≡ false = search rules in
    takes-none c.args.state.now now.state now.state now.field.items (bytes_left g.R.Read.remaining c.args.bytes.now)
    (bytes_left g.R.Read.remaining now.bytes) (bytes_left g.R.Read.remaining c.next_byte.new.self)
    (sym c.ends_record.ensures ∙ no) end.0 end.1 now.invariant.read

pub returns-in_default-clause-field : goal.returns-in_default-clause-field
returns-in_default-clause-field g c =
    let now = c.bytes in
    let end = rw c.in_default.is at c.in_ok-byte.ensures in
    let yes : c.ends_record.result ≡ true = search rules in
    takes-last c.args.state.now now.state now.field.items (bytes_left g.R.Read.remaining c.args.bytes.now)
    (bytes_left g.R.Read.remaining now.bytes) (bytes_left g.R.Read.remaining c.next_byte.new.self)
    (sym c.ends_record.ensures ∙ yes) end.0 end.1 now.invariant.short now.invariant.read

pub returns-then-is_full-clause-field : goal.returns-then-is_full-clause-field
returns-then-is_full-clause-field g c =
    let now = c.bytes in
    let took = rw c.in-Some.is at c.in_ok-byte.ensures in
    let full : length now.field.items ≡ MOST_FIELD_BYTES = eqb-true _ _ (sym c.is_full.ensures.value ∙ c.if-is_full.true) in
    let long : MOST_FIELD_BYTES < length (now.field.items ++ c.in-Some.byte ∷ []) =
    omega (arith, length-append now.field.items (c.in-Some.byte ∷ [])) in
    rw c.clear-then-is_full.ensures
    (takes-long c.args.state.now now.state c.step-next.result.0 c.in-Some.byte now.field.items
    (bytes_left g.R.Read.remaining c.args.bytes.now) (bytes_left g.R.Read.remaining now.bytes)
    (bytes_left g.R.Read.remaining c.next_byte.new.self) (rw c.in-Copy.is at c.step-next.ensures) took long now.invariant.read)

pub returns-in-EndField-clause-field : goal.returns-in-EndField-clause-field
returns-in-EndField-clause-field g c =
    let now = c.bytes in
    takes-comma c.args.state.now now.state c.step-next.result.0 c.in-Some.byte now.field.items
    (bytes_left g.R.Read.remaining c.args.bytes.now) (bytes_left g.R.Read.remaining now.bytes)
    (bytes_left g.R.Read.remaining c.next_byte.new.self) (rw c.in-EndField.is at c.step-next.ensures)
    (rw c.in-Some.is at c.in_ok-byte.ensures) now.invariant.short now.invariant.read

pub returns-in-EndRecord-clause-field : goal.returns-in-EndRecord-clause-field
returns-in-EndRecord-clause-field g c =
    let now = c.bytes in
    takes-record c.args.state.now now.state c.step-next.result.0 c.in-Some.byte now.field.items
    (bytes_left g.R.Read.remaining c.args.bytes.now) (bytes_left g.R.Read.remaining now.bytes)
    (bytes_left g.R.Read.remaining c.next_byte.new.self) (rw c.in-EndRecord.is at c.step-next.ensures)
    (rw c.in-Some.is at c.in_ok-byte.ensures) now.invariant.short now.invariant.read

pub bytes-preserved : goal.bytes-preserved
bytes-preserved g c =
    let now = c.bytes in
    let old = bytes_left g.R.Read.remaining c.args.bytes.now in
    let mid = bytes_left g.R.Read.remaining now.bytes in
    let new = bytes_left g.R.Read.remaining c.next_byte.new.self in
    let took = rw c.in-Some.is at c.in_ok-byte.ensures in
    elim c.match-action.branch [
      | in-Skip w ↦ rw w.field-is record {
        short = now.invariant.short;
        read = reads-skip c.args.state.now now.state c.step-next.result.0 c.in-Some.byte now.field.items old mid new
            (rw w.in-Skip.is at c.step-next.ensures) took now.invariant.read;
      }
      | in-Copy+else-is_full w ↦
          let room = eqb-false (length now.field.items) MOST_FIELD_BYTES (sym w.is_full.ensures.value ∙ w.if-is_full.false) in
          let grown = length-append now.field.items (c.in-Some.byte ∷ []) in
          rw (w.field-is, w.push.ensures.items) record {
            short = omega (arith, w.push.ensures.len);
            read = reads-copy c.args.state.now now.state c.step-next.result.0 c.in-Some.byte now.field.items old mid new
                (rw w.in-Copy.is at c.step-next.ensures) took now.invariant.read;
          }
    ]
