-- What is told of a sound without a key, and of one without a KP.
use Rattle.std.proofs.Common.{◌≡◌, ◌∙◌, ◌||◌, Bool, true, false, List, [], ◌∷◌, ◌++◌, ap, sym, Option, Some, None, refl}
use Rattle.std.proofs.lemmas.List.{append-nil}
use Rattle.std.proofs.lemmas.List.Folds.{list_any-append}
use Rattle.xb_measured.specs.declared.heard.Heard.{Heard}
use Rattle.xb_measured.specs.Receivers.{listed}
use Rattle.xb_measured.specs.Keyings.{is_kp}
use Rattle.xb_rx.specs.Listeners.{has_kp, has_kp_with, is_keyed, is_keyed_with}

pub keyed-more : (keys : List Heard) (key : Option Heard) → is_keyed_with (is_keyed keys) key ≡ is_keyed (keys ++ listed key)
keyed-more [] None = refl
keyed-more [] (Some key) = refl
keyed-more (k ∷ keys) key = refl

without : (b : Bool) → (b || false) ≡ b
without false = refl
without true = refl

pub kp-more : (keys : List Heard) (key : Option Heard) → has_kp_with (has_kp keys) key ≡ has_kp (keys ++ listed key)
kp-more keys None = ap (λ (ks : List Heard). has_kp ks) (sym (append-nil keys))
kp-more keys (Some key) =
    ap (λ (b : Bool). has_kp keys || b) (sym (without (is_kp key))) ∙ sym (list_any-append is_kp keys (key ∷ []))

-- where there is none with one key more, there was none before
pub kp-before : (before : Bool) (key : Option Heard) → has_kp_with before key ≡ false → before ≡ false
kp-before false key none = refl
kp-before true None none = none
kp-before true (Some key) none = none
