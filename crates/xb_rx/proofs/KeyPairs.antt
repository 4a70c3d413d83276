-- What a pair can stand for: a digit is neither KP nor ST, nor is ST a KP.
use Rattle.std.proofs.Common.{◌≡◌, ℕ, true, false, Some, refl}
use Rattle.xb_model.specs.declared.key.Key.TheVariants.{Digit, Kp, St}
use Rattle.xb_measured.specs.declared.heard.Heard.{Heard}
use Rattle.xb_measured.specs.declared.meaning.Meaning.{Meaning}
use Rattle.xb_measured.specs.declared.meaning.Meaning.TheVariants as meaning
use Rattle.xb_measured.specs.Meanings.{meaning_of}
use Rattle.xb_rx.specs.Begun.{IsDigit}
use Rattle.xb_measured.specs.Keyings.{begins_keying, digit_by, ends_keying, is_kp, is_st}

no-end : (m : Meaning) (d : ℕ) → digit_by m ≡ Some d → ends_keying m ≡ false
no-end (meaning.Key (Digit x)) d is = refl
no-end (meaning.Key Kp) d is = refl
no-end (meaning.Key St) d is = absurd (cc)
no-end meaning.StPrime d is = refl
no-end meaning.Kp2OrStSecond d is = refl
no-end meaning.StThird d is = refl

no-begin : (m : Meaning) (d : ℕ) → digit_by m ≡ Some d → begins_keying m ≡ false
no-begin (meaning.Key (Digit x)) d is = refl
no-begin (meaning.Key Kp) d is = absurd (cc)
no-begin (meaning.Key St) d is = refl
no-begin meaning.StPrime d is = refl
no-begin meaning.Kp2OrStSecond d is = refl
no-begin meaning.StThird d is = refl

one-of : (m : Meaning) → ends_keying m ≡ true → begins_keying m ≡ false
one-of (meaning.Key (Digit x)) is = refl
one-of (meaning.Key Kp) is = absurd (cc)
one-of (meaning.Key St) is = refl
one-of meaning.StPrime is = refl
one-of meaning.Kp2OrStSecond is = refl
one-of meaning.StThird is = refl

pub digit-no-st : (key : Heard) → IsDigit key → is_st key ≡ false
digit-no-st key (d, is) = no-end (meaning_of key.sight.pair) d is

pub digit-no-kp : (key : Heard) → IsDigit key → is_kp key ≡ false
digit-no-kp key (d, is) = no-begin (meaning_of key.sight.pair) d is

pub st-no-kp : (key : Heard) → is_st key ≡ true → is_kp key ≡ false
st-no-kp key is = one-of (meaning_of key.sight.pair) is
