-- After which keys a register stands as at first.
use Rattle.std.proofs.Common.{◌≡◌, ◌≢◌, ◌∙◌, ℕ, Bool, true, false, List, [], ◌∷◌, ◌++◌, sym, ap, subst, refl, append-nil}
use Rattle.std.specs.Prelude.{if◌then◌else◌}
use Rattle.std.specs.Option.{option_to_list}
use Rattle.std.proofs.lemmas.List.Sums.{fold-append}
use Rattle.xb_incoming.specs.declared.key.Symbol.{Symbol}
use Rattle.xb_incoming.specs.declared.key.Symbol.TheVariants.{Digit, Kp, St, Other}
use Rattle.xb_incoming.specs.declared.key.TimedKey.{TimedKey}
use Rattle.xb_incoming.specs.declared.phase.Keyed.{Keyed}
use Rattle.xb_incoming.specs.declared.phase.Phase.{Phase}
use Rattle.xb_incoming.specs.declared.phase.Phase.TheVariants.{Idle, Keying, Deaf}
use Rattle.xb_incoming.specs.Attempts.{is_clear, is_kp, times_out}
use Rattle.xb_model.specs.declared.reason.Reason.TheVariants.{TimedOut}
use Rattle.xb_model.specs.Image.{image_from}
use Rattle.xb_incoming.specs.Machine.{enter, listen, machine, next, opened, outs, phase_after, refuse, told_by}
use Rattle.xb_model.proofs.Images.{image_from-append}
use Rattle.xb_incoming.proofs.Taken.{all-told, told-idle, told_from}
use Rattle.xb_onward.specs.Forgetting.{IsNew, IsNewAfterSt, IsNewBeforeKp}

-- where it has no keying it stands as at first
new-idle : (limit : ℕ) (keys : List TimedKey) → phase_after limit keys ≡ Idle → IsNew limit keys
new-idle limit keys idle = record {
  told = λ later.
      image_from-append (machine limit) Idle keys later
      ∙ ap (λ (phase : Phase). told_by limit keys ++ image_from (machine limit) phase later) idle;
  ended = λ later.
      all-told limit keys later
      ∙ ap (λ (phase : Phase). told_by limit keys ++ told_from limit phase later) idle
      ∙ ap (λ all. told_by limit keys ++ all) (told-idle limit later);
}

abbrev st : ℕ → ℕ → TimedKey
st b e = record { what = St; begin_ms = b; end_ms = e }

-- an ST that tells something ends a keying
keying-step : (late : Bool) (keyed : Keyed) (e : ℕ)
    → (if late then refuse TimedOut keyed (opened St e) else listen keyed St e).phase ≡ Idle
keying-step true keyed e = refl
keying-step false keyed e = refl

deaf-step : (clear : Bool) (e : ℕ)
    → (option_to_list (if clear then enter (opened St e) else enter (Deaf e)).outcome ≡ [] → ⊥)
    → (if clear then enter (opened St e) else enter (Deaf e)).phase ≡ Idle
deaf-step true e tells = refl
deaf-step false e tells = absurd (tells refl)

st-step : (limit : ℕ) (phase : Phase) (b e : ℕ) → (outs limit phase (st b e) ≡ [] → ⊥) → next limit phase (st b e) ≡ Idle
st-step limit Idle b e tells = refl
st-step limit (Keying keyed last) b e tells = keying-step (times_out limit last b) keyed e
st-step limit (Deaf last) b e tells = deaf-step (is_clear last b) e tells

-- of one key more
told-more : (limit : ℕ) (keys : List TimedKey) (key : TimedKey)
    → told_by limit (keys ++ key ∷ []) ≡ told_by limit keys ++ outs limit (phase_after limit keys) key
told-more limit keys key =
    image_from-append (machine limit) Idle keys (key ∷ [])
    ∙ ap (λ rest. told_by limit keys ++ rest) (append-nil (outs limit (phase_after limit keys) key))

after-st : (limit : ℕ) (keys : List TimedKey) (b e : ℕ) → told_by limit (keys ++ st b e ∷ []) ≢ told_by limit keys
    → IsNew limit (keys ++ st b e ∷ [])
after-st limit keys b e more =
    new-idle limit (keys ++ st b e ∷ [])
    (fold-append (next limit) Idle keys (st b e ∷ [])
    ∙ st-step limit (phase_after limit keys) b e
    (λ none. more (told-more limit keys (st b e) ∙ ap (λ rest. told_by limit keys ++ rest) none ∙ append-nil (told_by limit keys))))

pub new_after_st : IsNewAfterSt
new_after_st limit keys key is more =
    subst (λ (what : Symbol). IsNew limit (keys ++ record { what = what; begin_ms = key.begin_ms; end_ms = key.end_ms } ∷ [])) (sym is)
    (after-st limit keys key.begin_ms key.end_ms
    (subst (λ (what : Symbol). told_by limit (keys ++ record { what = what; begin_ms = key.begin_ms; end_ms = key.end_ms } ∷ []) ≢ told_by limit keys) is more))

passed : (limit : ℕ) (what : Symbol) (e : ℕ) → is_kp what ≡ false → opened what e ≡ Idle
passed limit (Digit d) e is = refl
passed limit Kp e is = absurd (cc)
passed limit St e is = refl
passed limit Other e is = refl

pub new_before_kp : IsNewBeforeKp
new_before_kp limit key is = (new-idle limit (key ∷ []) (passed limit key.what key.end_ms is), refl)
