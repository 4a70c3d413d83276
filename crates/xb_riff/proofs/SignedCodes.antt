-- Which byte of mu-law is nearest to a sample, by the code that is nearest to its size.
use Rattle.std.proofs.Common.{◌≡◌, ◌∙◌, ℕ, ◌+◌, ◌-◌, ◌*◌, ◌/◌, ◌%◌, ◌^◌, ◌<◌, ◌≤◌, true, false, ap, ap₂, inl, inr, arith, ℤ, pos, negsuc, neg_ℤ, ◌-ℤ◌, ◌<ℤ◌, ◌≤ℤ◌, unsigned_abs, sym, subst, rules, refl}
use Rattle.std.specs.Prelude.{int_lt, nat_lt}
use Rattle.std.proofs.lemmas.Bool.{cases_lt}
use Rattle.std.proofs.lemmas.Bool.Decides.{nat_tests}
use Rattle.std.proofs.lemmas.Int.{by_lt_z, ints}
use Rattle.xb_riff.specs.Codings.{magnitude, mu_law_sample}
use Rattle.xb_riff.specs.MuLawBytes.{IsCodedAs, mu_law_byte, nearest_code}
use Rattle.xb_riff.proofs.NearestCodes.{IsNearestCode, nearest_of}

-- the bit of the sign is no part of a magnitude
sign_aside : (code : ℕ) → magnitude (128 + code) ≡ magnitude code
sign_aside code =
    let steps : (128 + code) % 16 ≡ code % 16 = omega arith in
    let rest : (128 + code) % 128 ≡ code % 128 = omega arith in
    ap₂ (λ (a b : ℕ). (a * 8 + 132) * 2 ^ (b / 16) - 132) steps rest

upper : (code : ℕ) → code < 128 → mu_law_sample (255 - code) ≡ pos (magnitude code)
upper code seven =
    let test : nat_lt (255 - code) 128 ≡ false = grind (arith, nat_tests) in
    let back : 255 - (255 - code) ≡ code = omega arith in
    rw test (ap (λ (n : ℕ). pos (magnitude n)) back)

lower : (code : ℕ) → code < 128 → mu_law_sample (127 - code) ≡ neg_ℤ (pos (magnitude code))
lower code seven =
    let test : nat_lt (127 - code) 128 ≡ true = grind (arith, nat_tests) in
    let back : 255 - (127 - code) ≡ 128 + code = omega arith in
    rw test (ap (λ (n : ℕ). neg_ℤ (pos n)) (ap (λ (n : ℕ). magnitude n) back ∙ sign_aside code))

-- each byte is that of a code and a sign
byte_is : (byte : ℕ) → byte < 256 → (P : ℤ → Type 0) → ((code : ℕ) → code < 128 → P (pos (magnitude code)))
    → ((code : ℕ) → code < 128 → P (neg_ℤ (pos (magnitude code)))) → P (mu_law_sample byte)
byte_is byte all P above below = elim (cases_lt byte 128) [
  | inl low ↦
      let is : 127 - (127 - byte) ≡ byte = omega arith in
      subst (λ (n : ℕ). P (mu_law_sample n)) is
      (subst P (sym (lower (127 - byte) (omega arith))) (below (127 - byte) (omega arith)))
  | inr high ↦
      let is : 255 - (255 - byte) ≡ byte = omega arith in
      subst (λ (n : ℕ). P (mu_law_sample n)) is
      (subst P (sym (upper (255 - byte) (omega arith))) (above (255 - byte) (omega arith)))
]

-- a sample from zero on
not_below : (sample : ℤ) → pos 0 ≤ℤ sample → int_lt sample (pos 0) ≡ false
not_below (pos n) above = grind (arith, nat_tests)
not_below (negsuc n) above = absurd (omega (arith, ints, above))

coded_above : (sample : ℤ) (size code : ℕ) → pos 0 ≤ℤ sample → size ≡ unsigned_abs sample → code < 128
    → IsNearestCode size code → IsCodedAs sample (255 - code)
coded_above sample size code above is seven nearest other byte =
    byte_is other byte
    (λ (z : ℤ). unsigned_abs (mu_law_sample (255 - code) -ℤ sample) ≤ unsigned_abs (z -ℤ sample))
    (λ there seven_there. rw (upper code seven) (omega (arith, ints, is, above, nearest there seven_there)))
    (λ there seven_there. rw (upper code seven) (omega (arith, ints, is, above, nearest there seven_there)))

coded_below : (sample : ℤ) (size code : ℕ) → sample <ℤ pos 0 → size ≡ unsigned_abs sample → code < 128
    → IsNearestCode size code → IsCodedAs sample (127 - code)
coded_below sample size code below is seven nearest other byte =
    byte_is other byte
    (λ (z : ℤ). unsigned_abs (mu_law_sample (127 - code) -ℤ sample) ≤ unsigned_abs (z -ℤ sample))
    (λ there seven_there. rw (lower code seven) (omega (arith, ints, is, below, nearest there seven_there)))
    (λ there seven_there. rw (lower code seven) (omega (arith, ints, is, below, nearest there seven_there)))

-- each sample of sixteen bits has its byte
pub samples_are_coded : (sample : ℤ) → unsigned_abs sample ≤ 32768 → IsCodedAs sample (mu_law_byte sample)
samples_are_coded sample most =
    let size : ℕ = unsigned_abs sample in
    let best = nearest_of size most in
    by_lt_z sample (pos 0)
    (λ below.
    let test : int_lt sample (pos 0) ≡ true = search rules in
    rw test (coded_below sample size (nearest_code size) below refl best.0 best.1))
    (λ above.
    let test = not_below sample above in
    rw test (coded_above sample size (nearest_code size) above refl best.0 best.1))

-- the byte by what a function has reckoned
pub byte_below : (sample : ℤ) (size code : ℕ) → int_lt sample (pos 0) ≡ true → size ≡ unsigned_abs sample
    → code ≡ nearest_code size → 127 - code ≡ mu_law_byte sample
byte_below sample size code below is known =
    let same : code ≡ nearest_code (unsigned_abs sample) = known ∙ ap (λ (n : ℕ). nearest_code n) is in
    rw below (ap (λ (n : ℕ). 127 - n) same)

pub byte_above : (sample : ℤ) (size code : ℕ) → int_lt sample (pos 0) ≡ false → size ≡ unsigned_abs sample
    → code ≡ nearest_code size → 255 - code ≡ mu_law_byte sample
byte_above sample size code above is known =
    let same : code ≡ nearest_code (unsigned_abs sample) = known ∙ ap (λ (n : ℕ). nearest_code n) is in
    rw above (ap (λ (n : ℕ). 255 - n) same)
