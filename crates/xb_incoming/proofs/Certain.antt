-- What was told is certain.
use Rattle.std.proofs.Common.{◌≡◌, ◌∙◌, ℕ, Bool, true, false, List, [], ◌∷◌, ◌++◌, drop, get_or, sym, ap, ap₂, refl, append-nil}
use Rattle.std.specs.Prelude.{if◌then◌else◌}
use Rattle.xb_model.specs.declared.dialled.Dialled.{Dialled}
use Rattle.xb_model.specs.declared.dialled.Dialled.TheVariants.{Refused}
use Rattle.xb_model.specs.declared.reason.Reason.TheVariants.{Mutilated, Abandoned, TimedOut}
use Rattle.xb_incoming.specs.declared.key.Symbol.TheVariants.{Other}
use Rattle.xb_incoming.specs.declared.key.TimedKey.{TimedKey}
use Rattle.xb_incoming.specs.declared.phase.Keyed.{Keyed}
use Rattle.xb_incoming.specs.declared.phase.Phase.{Phase}
use Rattle.xb_incoming.specs.declared.phase.Phase.TheVariants.{Idle, Keying, Deaf}
use Rattle.xb_incoming.specs.Attempts.{times_out}
use Rattle.xb_incoming.specs.Certain.{Begins, ToldIsCertain}
use Rattle.xb_incoming.specs.Machine.{listen, opened, phase_after, refuse}
use Rattle.xb_incoming.proofs.Taken.{all-told, told_from, told_of}

head-is : (p q : Dialled) (ps qs : List Dialled) → p ∷ ps ≡ q ∷ qs → p ≡ q
head-is p q ps qs e = ap (λ xs. get_or xs 0 p) e

tail-is : (p q : Dialled) (ps qs : List Dialled) → p ∷ ps ≡ q ∷ qs → ps ≡ qs
tail-is p q ps qs e = ap (drop 1) e

-- what two lists begin with that part after `told`
common : (told longer : List Dialled) (x y : Dialled) (xs ys more rest : List Dialled) → (x ≡ y → ⊥)
    → told ++ x ∷ xs ≡ longer ++ more → told ++ y ∷ ys ≡ longer ++ rest → Begins longer told
common told [] x y xs ys more rest apart a b = (told, refl)
common [] (l ∷ longer) x y xs ys more rest apart a b =
    absurd (apart (head-is x l xs (longer ++ more) a ∙ sym (head-is y l ys (longer ++ rest) b)))
common (t ∷ told) (l ∷ longer) x y xs ys more rest apart a b =
    let later = common told longer x y xs ys more rest apart
    (tail-is t l (told ++ x ∷ xs) (longer ++ more) a) (tail-is t l (told ++ y ∷ ys) (longer ++ rest) b) in
    (later.0, ap₂ (λ h hs. h ∷ hs) (head-is t l (told ++ x ∷ xs) (longer ++ more) a) later.1)

apart : (late : Bool) (n : ℕ) → Refused Abandoned n ≡ Refused (if late then TimedOut else Mutilated) n → ⊥
apart true n e = cc
apart false n e = cc

-- a pair that is none, at once
abbrev spoiler : ℕ → TimedKey
spoiler last = record { what = Other; begin_ms = last; end_ms = last }

-- it is heard as one, or as a time-out where the limit is 0
spoiled-by : (limit : ℕ) (late : Bool) (keyed : Keyed) (last : ℕ)
    → told_of limit (if late then refuse TimedOut keyed (opened Other last) else listen keyed Other last) []
    ≡ Refused (if late then TimedOut else Mutilated) keyed.count ∷ []
spoiled-by limit true keyed last = refl
spoiled-by limit false keyed last = refl

spoils : (limit : ℕ) (keyed : Keyed) (last : ℕ) → told_from limit (Keying keyed last) (spoiler last ∷ [])
    ≡ Refused (if times_out limit last last then TimedOut else Mutilated) keyed.count ∷ []
spoils limit keyed last = spoiled-by limit (times_out limit last last) keyed last

most-by : (limit : ℕ) (phase : Phase) (told longer : List Dialled)
    → ((later : List TimedKey) → Begins longer (told ++ told_from limit phase later)) → Begins longer told
most-by limit Idle told longer sure =
    let s = sure [] in (s.0, sym (append-nil told) ∙ s.1)
most-by limit (Deaf last) told longer sure =
    let s = sure [] in (s.0, sym (append-nil told) ∙ s.1)
most-by limit (Keying keyed last) told longer sure =
    let ended = sure [] in
    let spoiled = sure (spoiler last ∷ []) in
    common told longer (Refused Abandoned keyed.count)
    (Refused (if times_out limit last last then TimedOut else Mutilated) keyed.count) [] [] ended.0 spoiled.0
    (apart (times_out limit last last) keyed.count) ended.1
    (ap (λ os. told ++ os) (sym (spoils limit keyed last)) ∙ spoiled.1)

pub told_is_certain : ToldIsCertain
told_is_certain limit register keys told has = record {
  sure = λ later. (
    told_from limit (phase_after limit keys) later,
    all-told limit keys later ∙ ap (λ ts. ts ++ told_from limit (phase_after limit keys) later) (sym has.given),
  );
  most = λ longer sure.
      most-by limit (phase_after limit keys) told longer
      (λ later.
      let s = sure later in (
        s.0,
        ap (λ ts. ts ++ told_from limit (phase_after limit keys) later) has.given
            ∙ sym (all-told limit keys later) ∙ s.1,
      ));
}
