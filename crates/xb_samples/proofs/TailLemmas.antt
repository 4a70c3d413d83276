-- What follows the bytes of a sound, byte by byte.
use Rattle.std.proofs.Common.{◌≡◌, ℕ, zero, suc, ◌-◌, ◌+◌, ◌<◌, ◌≤◌, List, [], ◌∷◌, ◌++◌, Bool, true, false, cond, not, Option, Some, None, drop, get_or, length, ne_eqb, refl, ap, sym, ◌∙◌, length-append, arith}
use Rattle.std.proofs.lemmas.Bool.{le-ltb, lt-ltb}
use Rattle.std.proofs.lemmas.List.{at_drop_all, at_drop_more}
use Rattle.std.specs.Prelude.{◌%◌, ◌&&◌, is_some, unwrap_or}
use Rattle.xb_riff.specs.Heads.{long_at}
use Rattle.xb_samples.specs.declared.tail.Tail.{Tail}
use Rattle.xb_samples.specs.Tails.{IsNewTail, are_chunks, are_more, chunks_left, follows_more, is_name, left_after, more_follows}

-- a piece, and what comes after it
pub left-then :
    (left : Option ℕ) (piece text : List ℕ) → left_after (left_after left piece) text ≡ left_after left (piece ++ text)
left-then None piece text = refl
left-then (Some n) piece text =
    let same : (n - length piece) - length text ≡ n - length (piece ++ text) = omega (arith, length-append piece text) in
    ap (λ m. Some m) same

-- bytes that have to come, and those that may
pub byte_left :
    (left more : ℕ) (head : List ℕ) (byte : ℕ) (text : List ℕ) → 0 < left
    → are_more (left - 1) more head text ≡ are_more left more head (byte ∷ text)
byte_left zero more head byte text some = absurd (omega (arith, some))
byte_left (suc left) more head byte text some =
    let fewer : suc left - 1 ≡ left = omega arith in
    ap (λ n. are_more n more head text) fewer

pub byte_more :
    (left more : ℕ) (head : List ℕ) (byte : ℕ) (text : List ℕ) → left ≤ 0 → 0 < more
    → are_more left (more - 1) head text ≡ are_more left more head (byte ∷ text)
byte_more (suc left) more head byte text none some = absurd (omega (arith, none))
byte_more zero zero head byte text none some = absurd (omega (arith, some))
byte_more zero (suc more) head byte text none some =
    let fewer : suc more - 1 ≡ more = omega arith in
    ap (λ n. are_more zero n head text) fewer

-- those of a name and a length, and the last of them
abbrev begun : List ℕ → List ℕ → Bool
begun head text = cond (is_name head) (are_more (long_at head 4) (long_at head 4 % 2) [] text) false

pub byte_few :
    (left more : ℕ) (head now : List ℕ) (byte : ℕ) (text : List ℕ) → left ≤ 0 → more ≤ 0 → now ≡ head ++ byte ∷ []
    → length now < 8 → are_more left more now text ≡ are_more left more head (byte ∷ text)
byte_few (suc left) more head now byte text none no_more is few = absurd (omega (arith, none))
byte_few zero (suc more) head now byte text none no_more is few = absurd (omega (arith, no_more))
byte_few zero zero head now byte text none no_more is few =
    let short : length (head ++ byte ∷ []) < 8 = omega (arith, ap length is, few) in
    ap (λ (h : List ℕ). are_more zero zero h text) is
    ∙ ap (λ (b : Bool). cond b (are_more zero zero (head ++ byte ∷ []) text) (begun (head ++ byte ∷ []) text))
    (sym (lt-ltb (length (head ++ byte ∷ [])) 8 short))

named : (b w : Bool) → cond (not b) false w ≡ cond b w false
named true w = refl
named false w = refl

pub byte_last :
    (left more : ℕ) (head now : List ℕ) (byte : ℕ) (other : Bool) (next rest : ℕ) (none_left : List ℕ) (text : List ℕ)
    → left ≤ 0 → more ≤ 0 → now ≡ head ++ byte ∷ [] → 8 ≤ length now → other ≡ not (is_name now) → next ≡ long_at now 4
    → rest ≡ long_at now 4 % 2 → none_left ≡ []
    → cond other false (are_more next rest none_left text) ≡ are_more left more head (byte ∷ text)
byte_last (suc left) more head now byte other next rest none_left text none no_more is many e f g h = absurd (omega (arith, none))
byte_last zero (suc more) head now byte other next rest none_left text none no_more is many e f g h =
    absurd (omega (arith, no_more))
byte_last zero zero head now byte other next rest none_left text none no_more is many e f g h =
    let long : 8 ≤ length (head ++ byte ∷ []) = omega (arith, ap length is, many) in
    ap (λ (o : Bool). cond o false (are_more next rest none_left text)) e
    ∙ ap (λ (n : ℕ). cond (not (is_name now)) false (are_more n rest none_left text)) f
    ∙ ap (λ (n : ℕ). cond (not (is_name now)) false (are_more (long_at now 4) n none_left text)) g
    ∙ ap (λ (l : List ℕ). cond (not (is_name now)) false (are_more (long_at now 4) (long_at now 4 % 2) l text)) h
    ∙ named (is_name now) (are_more (long_at now 4) (long_at now 4 % 2) [] text)
    ∙ ap (λ (l : List ℕ). begun l text) is
    ∙ ap (λ (b : Bool). cond b (are_more zero zero (head ++ byte ∷ []) text) (begun (head ++ byte ∷ []) text))
    (sym (le-ltb (length (head ++ byte ∷ [])) 8 long))

-- where no chunk has come, none does
pub other_stays : (other x y : Bool) → other ≡ true → cond other false x ≡ cond other false y
other_stays true x y is = refl
other_stays false x y is = cc

pub other_not : (other x : Bool) → other ≡ false → cond other false x ≡ x
other_not true x is = cc
other_not false x is = refl

pub known_stays : (known x y : Bool) → known ≡ false → known && x ≡ known && y
known_stays true x y is = cc
known_stays false x y is = refl

-- bytes that have to come are passed over
are-passed :
    (left more : ℕ) (head bytes text : List ℕ)
    → are_more (left - length bytes) more head (drop left bytes ++ text) ≡ are_more left more head (bytes ++ text)
are-passed zero more head bytes text =
    let none : 0 - length bytes ≡ 0 = omega arith in
    ap (λ n. are_more n more head (bytes ++ text)) none
are-passed (suc left) more head [] text =
    let all : suc left - 0 ≡ suc left = omega arith in
    ap (λ n. are_more n more head text) all
are-passed (suc left) more head (byte ∷ rest) text =
    let fewer : suc left - suc (length rest) ≡ left - length rest = omega arith in
    ap (λ n. are_more n more head (drop left rest ++ text)) fewer ∙ are-passed left more head rest text

pub tail_passes :
    (tail : Tail) (now : ℕ) (bytes rest text : List ℕ) → now ≡ tail.left - length bytes → rest ≡ drop tail.left bytes
    → chunks_left (record tail { left = now }) (rest ++ text) ≡ chunks_left tail (bytes ++ text)
tail_passes tail now bytes rest text e is =
    ap (λ (n : ℕ). cond tail.is_other false (are_more n tail.more tail.head.items (rest ++ text))) e
    ∙ ap (λ (r : List ℕ). cond tail.is_other false (are_more (tail.left - length bytes) tail.more tail.head.items (r ++ text))) is
    ∙ ap (cond tail.is_other false) (are-passed tail.left tail.more tail.head.items bytes text)

-- one more byte of a piece, and all of it
pub piece_more :
    (first old new : Tail) (bytes : List ℕ) (i : ℕ) → i < length bytes
    → ((text : List ℕ) → chunks_left new text ≡ chunks_left old (get_or bytes i 0 ∷ text))
    → ((text : List ℕ) → chunks_left old (drop i bytes ++ text) ≡ chunks_left first (bytes ++ text))
    → (text : List ℕ) → chunks_left new (drop (i + 1) bytes ++ text) ≡ chunks_left first (bytes ++ text)
piece_more first old new bytes i inside took so_far text =
    took (drop (i + 1) bytes ++ text)
    ∙ sym (at_drop_more (λ (k : List ℕ). chunks_left old (k ++ text)) bytes i 0 inside) ∙ so_far text

pub piece_whole :
    (first now : Tail) (bytes : List ℕ) (i : ℕ) → length bytes ≤ i
    → ((text : List ℕ) → chunks_left now (drop i bytes ++ text) ≡ chunks_left first (bytes ++ text))
    → (text : List ℕ) → chunks_left now text ≡ chunks_left first (bytes ++ text)
piece_whole first now bytes i all so_far text =
    sym (at_drop_all (λ (k : List ℕ). chunks_left now (k ++ text)) bytes i all) ∙ so_far text

-- byte by byte they are the chunks
same-chunks : (left more : ℕ) (bytes : List ℕ) → are_more left more [] bytes ≡ are_chunks left more bytes
same-chunks (suc left) more [] =
    ap (λ (b : Bool). b && true) (ne_eqb (suc left) 0 (λ z. absurd (omega (arith, z))))
same-chunks (suc left) more (byte ∷ rest) = same-chunks left more rest
same-chunks zero zero [] = refl
same-chunks zero (suc more) [] = refl
same-chunks zero (suc more) (byte ∷ rest) = same-chunks zero more rest
same-chunks zero zero (a ∷ []) = refl
same-chunks zero zero (a ∷ b ∷ []) = refl
same-chunks zero zero (a ∷ b ∷ c ∷ []) = refl
same-chunks zero zero (a ∷ b ∷ c ∷ d ∷ []) = refl
same-chunks zero zero (a ∷ b ∷ c ∷ d ∷ e ∷ []) = refl
same-chunks zero zero (a ∷ b ∷ c ∷ d ∷ e ∷ f ∷ []) = refl
same-chunks zero zero (a ∷ b ∷ c ∷ d ∷ e ∷ f ∷ g ∷ []) = refl
same-chunks zero zero (a ∷ b ∷ c ∷ d ∷ e ∷ f ∷ g ∷ h ∷ rest) =
    let head : List ℕ = a ∷ b ∷ c ∷ d ∷ e ∷ f ∷ g ∷ h ∷ [] in
    ap (λ (w : Bool). cond (is_name head) w false) (same-chunks (long_at head 4) (long_at head 4 % 2) rest)

-- what follows a sound of which nothing has come
pub new_tail :
    (size : Option ℕ) (tail : Tail) (bytes : List ℕ) → IsNewTail size tail → follows_more tail bytes ≡ more_follows size bytes
new_tail size tail bytes is =
    ap (λ (k : Bool). k && not (chunks_left tail bytes)) is.known ∙ at size is.left is.more
  where
    at :
        (all : Option ℕ) → tail.left ≡ unwrap_or all 0 → tail.more ≡ unwrap_or all 0 % 2
        → is_some all && not (chunks_left tail bytes) ≡ more_follows all bytes
    at None e f = refl
    at (Some n) e f =
        ap not
        (ap (λ (o : Bool). cond o false (are_more tail.left tail.more tail.head.items bytes)) is.other
        ∙ ap (λ (l : ℕ). are_more l tail.more tail.head.items bytes) e
        ∙ ap (λ (m : ℕ). are_more n m tail.head.items bytes) f
        ∙ ap (λ (h : List ℕ). are_more n (n % 2) h bytes) is.head
        ∙ same-chunks n (n % 2) bytes)
