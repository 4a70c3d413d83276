use Rattle.std.proofs.Common.{Err, Ok, refl, sym, ap, ◌∙◌, subst, arith}
use Rattle.std.proofs.lemmas.Result.{err_from_is_err_and}
use Rattle.xb_rows.specs.Scanning.{GivesRead}
use Rattle.xb_live.specs.Starting.{Started, asked_of}
use Rattle.xb_live.specs.SoundedDecks.{SoundsRows}
use Rattle.xb_live.proofs.SoundedRuns.{sound-start, sound-more, sound-fault, sound-many, sound-end, sound-end-fault, sound-stop, sound-known}
use Rattle.xb_live.proofs.SoundedRuns.{sound-rows-end}
use Rattle.xb_live.proofs.deck_sound.sound_rows.Goals as goal

pub loop-init : goal.loop-init
loop-init g c = record {
  few = omega (arith, c.requires.none);
  given_up = omega (arith, ap (λ (s : Started). s.given_up) c.requires.started);
  lead = omega (arith, ap (λ (s : Started). s.dial.lead_ms) c.requires.started);
  now = omega (arith, ap (λ (s : Started). s.dial.now_ms) c.requires.started);
  table = refl;
  so_far = sound-start (asked_of c.args.line c.args.starting.now.start) c.args.office.now c.args.starting.now c.args.trunk.now c.args.rows.now (g.W.Write.contents c.args.out.now) c.requires.fresh c.requires.started c.requires.silent;
}

pub loop-preserved : goal.loop-preserved
loop-preserved g c = record {
  few = omega (arith, c.sound_row.ensures.one, c.loop.invariant.few);
  given_up = omega (arith, c.in_ok-sound_row-in-Some.ensures.grows.given_up, c.loop.invariant.given_up);
  lead = omega (arith, c.in_ok-sound_row-in-Some.ensures.grows.lead, c.loop.invariant.lead);
  now = omega (arith, c.in_ok-sound_row-in-Some.ensures.grows.now, c.loop.invariant.now);
  table = c.sound_row.ensures.table ∙ c.loop.invariant.table;
  so_far =
      sound-more _ (asked_of c.args.line c.args.starting.now.start) c.args.trunk.now.cadence c.loop.office c.loop.starting c.loop.trunk (g.W.Write.contents c.args.out.now) _ c.sound_row.new.office c.sound_row.new.starting c.sound_row.new.trunk c.in-Some.row _ c.args.rows.now _ _
      c.loop.invariant.so_far (subst (λ row. GivesRead c.loop.rows (Ok row) c.next_row.new.self) c.in-Some.is c.in_ok-row.ensures)
      (λ rows before. c.in_ok-sound_row-in-Some.ensures.sounds _ _ rows _ refl before);
}

pub returns-in_err-row : goal.returns-in_err-row
returns-in_err-row g c =
    let p = err_from_is_err_and c.from_residual.result c.from_residual.ensures.1 in
    subst (λ r. SoundsRows (asked_of c.args.line c.args.starting.now.start) c.args.trunk.now.cadence c.args.office.now.live.table c.args.rows.now r (g.W.Write.contents c.args.out.now) (g.W.Write.contents c.loop.out)) (sym p.1)
    (sound-known (asked_of c.args.line c.args.starting.now.start) c.args.trunk.now.cadence c.args.office.now.live.table c.args.rows.now _ _ _ (sound-rows-end _ _ p.2) (sound-stop _ (asked_of c.args.line c.args.starting.now.start) c.args.trunk.now.cadence c.loop.office c.loop.starting c.loop.trunk (g.W.Write.contents c.args.out.now) (g.W.Write.contents c.loop.out) c.args.office.now.live.table
    c.in_err-row.field-0.0 p.0 c.args.rows.now c.loop.rows _ c.loop.invariant.table c.loop.invariant.so_far c.in_err-row.ensures p.2))

pub returns-in_err-sound_row-in-Some : goal.returns-in_err-sound_row-in-Some
returns-in_err-sound_row-in-Some g c =
    let p = err_from_is_err_and c.from_residual-in_err-sound_row-in-Some.result c.from_residual-in_err-sound_row-in-Some.ensures.1 in
    subst (λ r. SoundsRows (asked_of c.args.line c.args.starting.now.start) c.args.trunk.now.cadence c.args.office.now.live.table c.args.rows.now r (g.W.Write.contents c.args.out.now) (g.W.Write.contents c.sound_row.new.out)) (sym (p.1 ∙ ap Err p.2))
    (sound-known (asked_of c.args.line c.args.starting.now.start) c.args.trunk.now.cadence c.args.office.now.live.table c.args.rows.now _ _ _ tt (sound-fault _ (asked_of c.args.line c.args.starting.now.start) c.args.trunk.now.cadence c.loop.office c.loop.starting c.loop.trunk (g.W.Write.contents c.args.out.now) (g.W.Write.contents c.loop.out) c.sound_row.new.office c.sound_row.new.starting c.sound_row.new.trunk c.args.office.now.live.table c.in-Some.row
    _ c.in_err-sound_row-in-Some.field-0.0 c.args.rows.now c.loop.rows _ (c.sound_row.ensures.table ∙ c.loop.invariant.table) c.loop.invariant.so_far
    (subst (λ row. GivesRead c.loop.rows (Ok row) c.next_row.new.self) c.in-Some.is c.in_ok-row.ensures)
    (λ rows before. c.in_err-sound_row-in-Some.ensures.sounds _ _ rows _ refl before)))

pub returns-in_err-write_rest-in-None : goal.returns-in_err-write_rest-in-None
returns-in_err-write_rest-in-None g c =
    let p = err_from_is_err_and c.from_residual-in_err-write_rest-in-None.result c.from_residual-in_err-write_rest-in-None.ensures.1 in
    subst (λ r. SoundsRows (asked_of c.args.line c.args.starting.now.start) c.args.trunk.now.cadence c.args.office.now.live.table c.args.rows.now r (g.W.Write.contents c.args.out.now) (g.W.Write.contents c.write_rest.new.out)) (sym (p.1 ∙ ap Err p.2))
    (sound-known (asked_of c.args.line c.args.starting.now.start) c.args.trunk.now.cadence c.args.office.now.live.table c.args.rows.now _ _ _ tt
    (sound-end-fault _ (asked_of c.args.line c.args.starting.now.start) c.args.trunk.now.cadence c.loop.office c.loop.starting c.loop.trunk (g.W.Write.contents c.args.out.now) (g.W.Write.contents c.loop.out) c.args.office.now.live.table _ c.in_err-write_rest-in-None.field-0.0
    c.args.rows.now c.loop.rows _ c.loop.invariant.table c.loop.invariant.so_far (subst (λ row. GivesRead c.loop.rows (Ok row) c.next_row.new.self) c.in-None.is c.in_ok-row.ensures)
    c.write_rest.ensures.beginning))

pub returns-in-None : goal.returns-in-None
returns-in-None g c =
    subst (λ n. SoundsRows (asked_of c.args.line c.args.starting.now.start) c.args.trunk.now.cadence c.args.office.now.live.table c.args.rows.now (Ok n) (g.W.Write.contents c.args.out.now) (g.W.Write.contents c.write_rest.new.out)) (sym c.given_up.ensures)
    (sound-known (asked_of c.args.line c.args.starting.now.start) c.args.trunk.now.cadence c.args.office.now.live.table c.args.rows.now _ _ _ tt
    (sound-end _ (asked_of c.args.line c.args.starting.now.start) c.args.trunk.now.cadence c.loop.office c.loop.starting c.loop.trunk (g.W.Write.contents c.args.out.now) (g.W.Write.contents c.loop.out) c.args.office.now.live.table _
    c.args.rows.now c.loop.rows _ c.loop.invariant.table c.loop.invariant.so_far (subst (λ row. GivesRead c.loop.rows (Ok row) c.next_row.new.self) c.in-None.is c.in_ok-row.ensures)
    c.in_ok-write_rest-in-None.ensures.whole))

pub returns : goal.returns
returns g c =
    sound-known (asked_of c.args.line c.args.starting.now.start) c.args.trunk.now.cadence c.args.office.now.live.table c.args.rows.now _ _ _ tt (sound-many _ (asked_of c.args.line c.args.starting.now.start) c.args.trunk.now.cadence c.loop.office c.loop.starting c.loop.trunk (g.W.Write.contents c.args.out.now) (g.W.Write.contents c.loop.out) c.args.office.now.live.table
    c.args.rows.now c.loop.rows c.loop.invariant.table (omega (arith, c.loop-test.false)) c.loop.invariant.so_far)
