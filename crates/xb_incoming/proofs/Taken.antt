-- The register gives the outcomes of the definition.
use Rattle.std.proofs.Common.{◌≡◌, ◌∙◌, ℕ, suc, Bool, true, false, List, [], ◌∷◌, ◌++◌, fold, sym, ap, ap₂, refl, append_assoc, append-nil}
use Rattle.std.specs.Option.{option_to_list}
use Rattle.std.specs.Prelude.{if◌then◌else◌}
use Rattle.std.proofs.lemmas.List.Sums.{fold-append}
use Rattle.xb_model.specs.declared.dialled.Dialled.{Dialled}
use Rattle.xb_model.specs.declared.reason.Reason.TheVariants.{Mutilated, Abandoned, TimedOut}
use Rattle.xb_model.specs.Image.{image_from}
use Rattle.xb_model.proofs.Images.{image_from-append}
use Rattle.xb_incoming.specs.declared.key.Symbol.{Symbol}
use Rattle.xb_incoming.specs.declared.key.Symbol.TheVariants.{Digit, Kp, St, Other}
use Rattle.xb_incoming.specs.declared.key.TimedKey.{TimedKey}
use Rattle.xb_incoming.specs.declared.phase.Keyed.{Keyed}
use Rattle.xb_incoming.specs.declared.phase.Phase.{Phase}
use Rattle.xb_incoming.specs.declared.phase.Phase.TheVariants.{Idle, Keying, Deaf}
use Rattle.xb_incoming.specs.declared.phase.Step.{Step}
use Rattle.xb_incoming.specs.declared.register.Register.{Register}
use Rattle.xb_incoming.specs.Attempts.{deaf_from, digits_at, digits_from, ending_at, ending_from, is_clear, number_of, outcomes, outcomes_after, refused, taken_at, taken_from, times_out}
use Rattle.xb_incoming.specs.Machine.{HasTaken, at_end, enter, listen, machine, next, opened, outs, phase_after, refuse, told_by}
use Rattle.xb_incoming.proofs.Packed.{packed, packed-more, packed-number}

-- all that is told of keys and their end, from a phase on
abbrev pub told_from : ℕ → Phase → List TimedKey → List Dialled
told_from limit phase [] = at_end phase
told_from limit phase (key ∷ keys) = outs limit phase key ++ told_from limit (next limit phase key) keys

abbrev pub told_of : ℕ → Step → List TimedKey → List Dialled
told_of limit step keys = option_to_list step.outcome ++ told_from limit step.phase keys

abbrev pub key_of : Symbol → ℕ → ℕ → TimedKey
key_of what b e = record { what = what; begin_ms = b; end_ms = e }

-- a keying with these digits, and then keys
abbrev pub keyed_with : ℕ → List ℕ → ℕ → List TimedKey → List Dialled
keyed_with limit ds last keys =
    ending_from limit last keys (ds ++ digits_from limit last keys)
    ∷ outcomes_after limit (taken_from limit last keys) keys

open-step : (limit : ℕ) (what : Symbol) (b e : ℕ) (keys : List TimedKey)
    → told_from limit Idle keys ≡ outcomes_after limit 0 keys
    → told_from limit (Keying (packed []) e) keys ≡ keyed_with limit [] e keys
    → told_from limit (opened what e) keys ≡ outcomes_after limit 0 (key_of what b e ∷ keys)
open-step limit (Digit d) b e keys idle keying = idle
open-step limit Kp b e keys idle keying = keying
open-step limit St b e keys idle keying = idle
open-step limit Other b e keys idle keying = idle

-- a key in a keying: it comes too late, or in time
keyed-step : (limit : ℕ) (late : Bool) (ds : List ℕ) (what : Symbol) (b e : ℕ) (keys : List TimedKey)
    → told_from limit Idle keys ≡ outcomes_after limit 0 keys
    → ((more : List ℕ) → told_from limit (Keying (packed more) e) keys ≡ keyed_with limit more e keys)
    → told_from limit (Deaf e) keys ≡ outcomes_after limit (deaf_from e keys) keys
    → told_of limit (if late then refuse TimedOut (packed ds) (opened what e) else listen (packed ds) what e) keys
    ≡ (if late then refused TimedOut else ending_at what (ending_from limit e keys))
    (ds ++ (if late then [] else digits_at what (digits_from limit e keys)))
    ∷ outcomes_after limit (if late then 0 else taken_at what (taken_from limit e keys) (deaf_from e keys))
    (key_of what b e ∷ keys)
keyed-step limit true ds what b e keys idle keying deaf =
    ap₂ (λ (digits : List ℕ) rest. refused TimedOut digits ∷ rest) (sym (append-nil ds))
    (open-step limit what b e keys idle (keying []))
keyed-step limit false ds (Digit d) b e keys idle keying deaf =
    ap (λ (k : Keyed). told_from limit (Keying k e) keys) (packed-more d ds)
    ∙ keying (ds ++ d ∷ [])
    ∙ ap (λ (digits : List ℕ). ending_from limit e keys digits ∷ outcomes_after limit (taken_from limit e keys) keys)
    (append_assoc ds (d ∷ []) (digits_from limit e keys))
keyed-step limit false ds Kp b e keys idle keying deaf =
    ap₂ (λ (digits : List ℕ) rest. refused Mutilated digits ∷ rest) (sym (append-nil ds)) deaf
keyed-step limit false ds St b e keys idle keying deaf =
    ap₂ (λ (o : Dialled) rest. o ∷ rest) (packed-number ds ∙ ap number_of (sym (append-nil ds))) idle
keyed-step limit false ds Other b e keys idle keying deaf =
    ap₂ (λ (digits : List ℕ) rest. refused Mutilated digits ∷ rest) (sym (append-nil ds)) deaf

-- a key after a mutilated keying
deaf-step : (limit : ℕ) (clear : Bool) (what : Symbol) (b e : ℕ) (keys : List TimedKey)
    → told_from limit (opened what e) keys ≡ outcomes_after limit 0 (key_of what b e ∷ keys)
    → told_from limit (Deaf e) keys ≡ outcomes_after limit (deaf_from e keys) keys
    → told_of limit (if clear then enter (opened what e) else enter (Deaf e)) keys
    ≡ outcomes_after limit (if clear then 0 else suc (deaf_from e keys)) (key_of what b e ∷ keys)
deaf-step limit true what b e keys opens deaf = opens
deaf-step limit false what b e keys opens deaf = deaf

mutual
  pub told-idle : (limit : ℕ) (keys : List TimedKey) → told_from limit Idle keys ≡ outcomes_after limit 0 keys
  told-idle limit [] = refl
  told-idle limit (key ∷ keys) =
      open-step limit key.what key.begin_ms key.end_ms keys (told-idle limit keys) (told-keying limit [] key.end_ms keys)

  pub told-keying : (limit : ℕ) (ds : List ℕ) (last : ℕ) (keys : List TimedKey)
      → told_from limit (Keying (packed ds) last) keys ≡ keyed_with limit ds last keys
  told-keying limit ds last [] = ap (λ (digits : List ℕ). refused Abandoned digits ∷ []) (sym (append-nil ds))
  told-keying limit ds last (key ∷ keys) =
      keyed-step limit (times_out limit last key.begin_ms) ds key.what key.begin_ms key.end_ms keys (told-idle limit keys)
      (λ more. told-keying limit more key.end_ms keys) (told-deaf limit key.end_ms keys)

  pub told-deaf : (limit last : ℕ) (keys : List TimedKey)
      → told_from limit (Deaf last) keys ≡ outcomes_after limit (deaf_from last keys) keys
  told-deaf limit last [] = refl
  told-deaf limit last (key ∷ keys) =
      deaf-step limit (is_clear last key.begin_ms) key.what key.begin_ms key.end_ms keys
      (open-step limit key.what key.begin_ms key.end_ms keys (told-idle limit keys) (told-keying limit [] key.end_ms keys))
      (told-deaf limit key.end_ms keys)

-- what is told of earlier keys, and then of later ones
pub told-after : (limit : ℕ) (phase : Phase) (keys later : List TimedKey)
    → told_from limit phase (keys ++ later)
    ≡ image_from (machine limit) phase keys ++ told_from limit (fold (next limit) phase keys) later
told-after limit phase [] later = refl
told-after limit phase (key ∷ keys) later =
    ap (λ rest. outs limit phase key ++ rest) (told-after limit (next limit phase key) keys later)
    ∙ sym (append_assoc (outs limit phase key) (image_from (machine limit) (next limit phase key) keys)
    (told_from limit (fold (next limit) (next limit phase key) keys) later))

-- of the definition: what is told, and then what the end of the keys tells
pub all-told : (limit : ℕ) (keys later : List TimedKey)
    → outcomes limit (keys ++ later) ≡ told_by limit keys ++ told_from limit (phase_after limit keys) later
all-told limit keys later = sym (told-idle limit (keys ++ later)) ∙ told-after limit Idle keys later

-- the register of a phase
abbrev pub in_phase : ℕ → Phase → Register
in_phase limit phase = record { timeout_ms = limit; phase = phase }

pub takes : (limit : ℕ) (old : Register) (key : TimedKey) (keys : List TimedKey) (told : List Dialled)
    → HasTaken limit old keys told
    → HasTaken limit (in_phase old.timeout_ms (next old.timeout_ms old.phase key)) (keys ++ key ∷ [])
    (told ++ outs old.timeout_ms old.phase key)
takes limit old key keys told has = record {
  waits = has.waits;
  stands = ap₂ (λ ms phase. next ms phase key) has.waits has.stands
      ∙ sym (fold-append (next limit) Idle keys (key ∷ []));
  given =
      ap₂ (λ ts (register : Register). ts ++ outs register.timeout_ms register.phase key) has.given
      (ap₂ in_phase has.waits has.stands)
      ∙ ap (λ rest. told_by limit keys ++ rest) (sym (append-nil (outs limit (phase_after limit keys) key)))
      ∙ sym (image_from-append (machine limit) Idle keys (key ∷ []));
}

pub finishes : (limit : ℕ) (register : Register) (keys : List TimedKey) (told : List Dialled)
    → HasTaken limit register keys told → told ++ at_end register.phase ≡ outcomes limit keys
finishes limit register keys told has =
    ap₂ (λ ts p. ts ++ at_end p) has.given has.stands
    ∙ sym (all-told limit keys [])
    ∙ ap (λ (ks : List TimedKey). outcomes limit ks) (append-nil keys)
