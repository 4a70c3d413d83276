-- Records of three fields.
use Rattle.std.proofs.Common.{◌≡◌, ◌≢◌, ℕ, List, [], ◌∷◌, length, Some, None, arith}
use Rattle.csv.specs.Records.{field_at}
use Rattle.xb_rows.specs.RowTexts.{Fields, three_fields}

-- a record of three fields has those that stand at its places
pub three_fields-is : (fs : Fields) (a b c : List ℕ) → length fs ≡ 3
    → Some a ≡ field_at fs 0 → Some b ≡ field_at fs 1 → Some c ≡ field_at fs 2
    → three_fields fs ≡ Some (a, b, c)
unfolding field_at
three_fields-is [] a b c n p q r = cc n
three_fields-is (x ∷ []) a b c n p q r = absurd (omega arith)
three_fields-is (x ∷ y ∷ []) a b c n p q r = absurd (omega arith)
three_fields-is (x ∷ y ∷ z ∷ []) a b c n p q r = cc
three_fields-is (x ∷ y ∷ z ∷ w ∷ rest) a b c n p q r = absurd (omega arith)

-- a record of three fields has one at each of the three places
pub field_at-of_three : (fs : Fields) → length fs ≡ 3
    → (field_at fs 0 ≢ None) × (field_at fs 1 ≢ None) × (field_at fs 2 ≢ None)
unfolding field_at
field_at-of_three [] n = absurd (omega arith)
field_at-of_three (x ∷ []) n = absurd (omega arith)
field_at-of_three (x ∷ y ∷ []) n = absurd (omega arith)
field_at-of_three (x ∷ y ∷ z ∷ []) n = (λ e. cc e, λ e. cc e, λ e. cc e)
field_at-of_three (x ∷ y ∷ z ∷ w ∷ rest) n = absurd (omega arith)
