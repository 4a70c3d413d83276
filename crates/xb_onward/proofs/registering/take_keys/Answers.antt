use Rattle.std.proofs.Common.{◌≡◌, ◌∙◌, ◌+◌, ◌∷◌, [], ◌++◌, List, ap, sym, subst, map, take, get_or, arith}
use Rattle.std.specs.Option.{option_to_list}
use Rattle.std.proofs.lemmas.List.{map-append, take_more}
use Rattle.xb_model.specs.declared.dialled.Dialled.{Dialled}
use Rattle.xb_incoming.specs.declared.key.TheConstants.{TIME_OUT_MS}
use Rattle.xb_incoming.specs.declared.key.TimedKey.{TimedKey}
use Rattle.xb_incoming.specs.Machine.{HasTaken}
use Rattle.xb_onward.specs.declared.key.PlainKey.{PlainKey}
use Rattle.xb_onward.specs.Keys.{key_in}
use Rattle.xb_onward.specs.Outcomes.{outcome_in}
use Rattle.xb_onward.proofs.registering.take_keys.Goals as goal

pub loop-key-preserved : goal.loop-key-preserved
loop-key-preserved c =
    let keys = c.args.keys.now in
    let i = c.loop-key.key-index in
    let none : PlainKey = record { begin_ms = 0; end_ms = 0; kind = 0; digit = 0 } in
    let before = map outcome_in (take c.loop-key.count c.loop-key.room) in
    let one_more : map key_in (take i keys) ++ c.key_of.result ∷ [] ≡ map key_in (take (i + 1) keys) =
    ap (λ (key : TimedKey). map key_in (take i keys) ++ key ∷ []) c.key_of.ensures
    ∙ sym (ap (map key_in) (take_more keys i none c.loop-key-test.true)
    ∙ map-append key_in (take i keys) (get_or keys i none ∷ [])) in
    let has : HasTaken TIME_OUT_MS c.take.new.self (map key_in (take i keys) ++ c.key_of.result ∷ [])
    (before ++ option_to_list c.take.result) =
    c.take.ensures TIME_OUT_MS (map key_in (take i keys)) before c.loop-key.invariant.taken in
    record {
      taken =
          subst (λ (ks : List TimedKey). HasTaken TIME_OUT_MS c.take.new.self ks
          (map outcome_in (take c.put_outcome-count.result c.put_outcome-count.new.room))) one_more
          (subst (λ (told : List Dialled). HasTaken TIME_OUT_MS c.take.new.self (map key_in (take i keys) ++ c.key_of.result ∷ []) told)
          (sym c.put_outcome-count.ensures.put) has);
      few = omega (arith, c.put_outcome-count.ensures.few, c.loop-key.invariant.few);
      length = c.put_outcome-count.ensures.length ∙ c.loop-key.invariant.length;
    }
