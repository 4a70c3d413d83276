use Rattle.std.proofs.Common.{◌≡◌, ◌∙◌, ◌++◌, ◌∷◌, [], List, Option, Result, Err, ap, arith, rules, subst, sym, ℤ, FitsSigned}
use Rattle.std.specs.Int.{w16}
use Rattle.std.proofs.lemmas.Int.{to_z-of_z}
use Rattle.std.proofs.lemmas.Result.{err_from_is_err_and}
use Rattle.xb_measured.specs.declared.heard.Heard.{Heard}
use Rattle.xb_measured.specs.Receivers.{listed}
use Rattle.xb_rx.specs.declared.fault.RxFault.{RxFault}
use Rattle.xb_rx.specs.declared.listener.Listener.{Listener}
use Rattle.xb_rx.specs.Hearing.{Hears, outputs}
use Rattle.xb_rx.specs.Listeners.{HasListened}
use Rattle.xb_rx.specs.Reports.{reported}
use Rattle.xb_rx.specs.Timed.{timing_by}
use Rattle.xb_rx.specs.Samples.{IsForm}
use Rattle.xb_rx.specs.Streams.{sound_left}
use Rattle.xb_rx.proofs.SoFar.{so_far-end, so_far-end-fault, so_far-end-quiet, so_far-fault, so_far-more, so_far-start, so_far-stop}
use Rattle.xb_rx.proofs.receiving.hear.Goals as goal

-- the sample as it is passed is the sample
taken : (old new : Listener) (x y : ℤ) (key : Option Heard) → x ≡ y
    → ((samples : List ℤ) (keys : List Heard) → HasListened old samples keys → HasListened new (samples ++ x ∷ []) (keys ++ listed key))
    → (samples : List ℤ) (keys : List Heard) → HasListened old samples keys → HasListened new (samples ++ y ∷ []) (keys ++ listed key)
taken old new x y key same takes samples keys has =
    subst (λ (z : ℤ). HasListened new (samples ++ z ∷ []) (keys ++ listed key)) same (takes samples keys has)

pub loop-sample-init : goal.loop-sample-init
loop-sample-init g c = record {
  form = c.requires.form;
  ready = c.requires.ready;
  few = omega (arith, c.requires.none, c.requires.said);
  fits = omega (arith, c.new-listener.ensures.count, c.requires.said);
  so_far = λ clock tells. so_far-start (reported (timing_by c.args.since clock) c.args.report.now) c.new-listener.result (sound_left g.R.Read.remaining c.args.source.now) (g.W.Write.contents c.args.out.now) (g.E.Write.contents c.args.err.now) c.new-listener.ensures.heard;
}

pub returns-in_err-sample : goal.returns-in_err-sample
returns-in_err-sample g c = λ clock tells.
    let p = err_from_is_err_and c.from_residual.result c.from_residual.ensures.1 in
    subst (λ (r : Result (Unit {0}) RxFault). Hears c.args.since (sound_left g.R.Read.remaining c.args.source.now) (reported (timing_by c.args.since clock) c.args.report.now) r
    (outputs (g.W.Write.contents c.args.out.now) (g.W.Write.contents c.loop-sample.out) (g.E.Write.contents c.args.err.now) (g.E.Write.contents c.loop-sample.err)))
    (sym (p.1 ∙ ap (λ f. Err f) p.2))
    (so_far-stop c.args.since (reported (timing_by c.args.since clock) c.args.report.now) (reported (timing_by c.args.since clock) c.loop-sample.report) c.loop-sample.listener (g.W.Write.contents c.args.out.now) (g.W.Write.contents c.loop-sample.out) (g.E.Write.contents c.args.err.now)
    (g.E.Write.contents c.loop-sample.err) c.in_err-sample.field-0.0
    (sound_left g.R.Read.remaining c.args.source.now) (sound_left g.R.Read.remaining c.loop-sample.source)
    (sound_left g.R.Read.remaining c.next_sample.new.self) (c.loop-sample.invariant.so_far clock tells) c.in_err-sample.ensures.sample)

pub loop-sample-preserved : goal.loop-sample-preserved
loop-sample-preserved g c =
    let fits : FitsSigned w16 c.in-Some.sample = search rules in
    let less = rw c.in-Some.is at c.in_ok-sample.ensures.said in record {
      form = subst IsForm (sym c.in_ok-sample.ensures.form) c.loop-sample.invariant.form;
      ready = c.in_ok-take.ensures.ready;
      few = omega (arith, less, c.in_ok-take.ensures.count, c.loop-sample.invariant.few);
      fits = omega (arith, less, c.take-key.ensures.count, c.loop-sample.invariant.fits);
      so_far = λ clock tells. so_far-more c.args.since (reported (timing_by c.args.since clock) c.args.report.now) (reported (timing_by c.args.since clock) c.loop-sample.report) c.loop-sample.listener (g.W.Write.contents c.args.out.now) (g.W.Write.contents c.loop-sample.out) (g.E.Write.contents c.args.err.now)
          (g.E.Write.contents c.loop-sample.err) (reported (timing_by c.args.since clock) c.take.new.self) c.take-key.new.self
          c.in-Some.sample c.take-key.result (sound_left g.R.Read.remaining c.args.source.now) (sound_left g.R.Read.remaining c.loop-sample.source)
          (sound_left g.R.Read.remaining c.next_sample.new.self) _ _
          (c.loop-sample.invariant.so_far clock tells) (rw c.in-Some.is at c.in_ok-sample.ensures.sample)
          (taken c.loop-sample.listener c.take-key.new.self _ c.in-Some.sample c.take-key.result (to_z-of_z w16 c.in-Some.sample fits) c.take-key.ensures.heard) (c.in_ok-take.ensures.page clock tells) (c.in_ok-take.ensures.told (timing_by c.args.since clock));
    }

pub returns-in_err-take : goal.returns-in_err-take
returns-in_err-take g c = λ clock tells.
    let fits : FitsSigned w16 c.in-Some.sample = search rules in
    let p = err_from_is_err_and c.from_residual-in_err-take.result c.from_residual-in_err-take.ensures.1 in
    subst (λ (r : Result (Unit {0}) RxFault). Hears c.args.since (sound_left g.R.Read.remaining c.args.source.now) (reported (timing_by c.args.since clock) c.args.report.now) r
    (outputs (g.W.Write.contents c.args.out.now) (g.W.Write.contents c.take.new.out) (g.E.Write.contents c.args.err.now) (g.E.Write.contents c.take.new.err)))
    (sym (p.1 ∙ ap (λ f. Err f) p.2))
    (so_far-fault c.args.since (reported (timing_by c.args.since clock) c.args.report.now) (reported (timing_by c.args.since clock) c.loop-sample.report) c.loop-sample.listener (g.W.Write.contents c.args.out.now) (g.W.Write.contents c.loop-sample.out) (g.E.Write.contents c.args.err.now)
    (g.E.Write.contents c.loop-sample.err) (reported (timing_by c.args.since clock) c.take.new.self) c.take-key.new.self
    c.in-Some.sample c.take-key.result c.in_err-take.field-0.0 (sound_left g.R.Read.remaining c.args.source.now) (sound_left g.R.Read.remaining c.loop-sample.source)
    (sound_left g.R.Read.remaining c.next_sample.new.self) _ _
    (c.loop-sample.invariant.so_far clock tells) (rw c.in-Some.is at c.in_ok-sample.ensures.sample)
    (taken c.loop-sample.listener c.take-key.new.self _ c.in-Some.sample c.take-key.result (to_z-of_z w16 c.in-Some.sample fits) c.take-key.ensures.heard) (c.in_err-take.ensures.page clock tells) (c.in_err-take.ensures.told (timing_by c.args.since clock)) c.in_err-take.ensures.late)

pub returns-in_err-end : goal.returns-in_err-end
returns-in_err-end g c = λ clock tells.
    let p = err_from_is_err_and c.from_residual-in_err-end.result c.from_residual-in_err-end.ensures.1 in
    subst (λ (r : Result (Unit {0}) RxFault). Hears c.args.since (sound_left g.R.Read.remaining c.args.source.now) (reported (timing_by c.args.since clock) c.args.report.now) r
    (outputs (g.W.Write.contents c.args.out.now) (g.W.Write.contents c.end.new.out) (g.E.Write.contents c.args.err.now) (g.E.Write.contents c.end.new.err)))
    (sym (p.1 ∙ ap (λ f. Err f) p.2))
    (so_far-end-fault c.args.since (reported (timing_by c.args.since clock) c.args.report.now) (reported (timing_by c.args.since clock) c.loop-sample.report) c.loop-sample.listener (g.W.Write.contents c.args.out.now) (g.W.Write.contents c.loop-sample.out) (g.E.Write.contents c.args.err.now)
    (g.E.Write.contents c.loop-sample.err) c.finish-last.result c.in_err-end.field-0.0
    (sound_left g.R.Read.remaining c.args.source.now) (sound_left g.R.Read.remaining c.loop-sample.source)
    (sound_left g.R.Read.remaining c.next_sample.new.self) _ _ (c.loop-sample.invariant.so_far clock tells) (rw c.in_default.is at c.in_ok-sample.ensures.sample)
    c.finish-last.ensures (c.in_err-end.ensures.page clock tells) (c.in_err-end.ensures.told (timing_by c.args.since clock)) c.in_err-end.ensures.late)

pub returns-in_err-tell : goal.returns-in_err-tell
returns-in_err-tell g c = λ clock tells.
    let p = err_from_is_err_and c.from_residual-in_err-tell.result c.from_residual-in_err-tell.ensures.1 in
    subst (λ (r : Result (Unit {0}) RxFault). Hears c.args.since (sound_left g.R.Read.remaining c.args.source.now) (reported (timing_by c.args.since clock) c.args.report.now) r
    (outputs (g.W.Write.contents c.args.out.now) (g.W.Write.contents c.end.new.out) (g.E.Write.contents c.args.err.now) (g.E.Write.contents c.tell.new.err)))
    (sym (p.1 ∙ ap (λ f. Err f) p.2))
    (so_far-end-quiet c.args.since (reported (timing_by c.args.since clock) c.args.report.now) (reported (timing_by c.args.since clock) c.loop-sample.report) c.loop-sample.listener (g.W.Write.contents c.args.out.now) (g.W.Write.contents c.loop-sample.out) (g.E.Write.contents c.args.err.now)
    (g.E.Write.contents c.loop-sample.err) c.finish-last.result c.in_err-tell.field-0.0
    (sound_left g.R.Read.remaining c.args.source.now) (sound_left g.R.Read.remaining c.loop-sample.source)
    (sound_left g.R.Read.remaining c.next_sample.new.self) _ _ _ (c.loop-sample.invariant.so_far clock tells) (rw c.in_default.is at c.in_ok-sample.ensures.sample)
    c.finish-last.ensures (c.in_ok-end.ensures.page clock tells) (c.in_ok-end.ensures.told (timing_by c.args.since clock)) c.in_err-tell.ensures)

pub returns : goal.returns
returns g c = λ clock tells.
    so_far-end c.args.since (reported (timing_by c.args.since clock) c.args.report.now) (reported (timing_by c.args.since clock) c.loop-sample.report) c.loop-sample.listener (g.W.Write.contents c.args.out.now) (g.W.Write.contents c.loop-sample.out) (g.E.Write.contents c.args.err.now)
    (g.E.Write.contents c.loop-sample.err) c.finish-last.result
    (sound_left g.R.Read.remaining c.args.source.now) (sound_left g.R.Read.remaining c.loop-sample.source)
    (sound_left g.R.Read.remaining c.next_sample.new.self) _ _ _ (c.loop-sample.invariant.so_far clock tells) (rw c.in_default.is at c.in_ok-sample.ensures.sample)
    c.finish-last.ensures (c.in_ok-end.ensures.page clock tells) (c.in_ok-end.ensures.told (timing_by c.args.since clock)) c.in_ok-tell.ensures
