-- What the decks get of rows, one after the other.
use Rattle.std.proofs.Common.{◌≡◌, ◌∙◌, ◌≤◌, ◌<◌, ◌+◌, ℕ, Bool, true, false, List, [], ◌∷◌, ◌++◌, length, refl, sym, ap, subst, append-nil, append_assoc, arith}
use Rattle.std.specs.Prelude.{◌==◌, ◌&&◌, codes, if◌then◌else◌, nat_le, nat_lt}
use Rattle.std.specs.List.{flat_map}
use Rattle.std.specs.Io.KnownBytes.{Appends}
use Rattle.std.proofs.KnownBytes.{Appends-nil, Appends-trans}
use Rattle.std.proofs.lemmas.Bool.{eq-eqb, eqb-true, le-ltb, lt-ltb, ltb-false, ltb-true, ne_eqb}
use Rattle.std.proofs.lemmas.Grind.{flat_map-append}
use Rattle.std.proofs.lemmas.List.{get_or_past}
use Rattle.std.proofs.lemmas.List.Elements.{filter-append}
use Rattle.xb_model.specs.Rows.{LoopRow}
use Rattle.xb_rows.specs.WrittenRows.{record_text}
use Rattle.xb_parts.specs.declared.range.LineRange.{LineRange}
use Rattle.xb_parts.specs.Ranges.{rows_in}
use Rattle.xb_parts.specs.PartDecks.{Decks, Gets, deck_of_part, head_of, only_below, only_for, range_at, records_of_part}

pub Gets-none : (decks : Decks) → Gets (λ i. []) decks decks
Gets-none decks = λ i. Appends-nil (decks i)

pub Gets-trans : (first next : ℕ → List ℕ) (a b c : Decks) → Gets first a b → Gets next b c → Gets (λ i. first i ++ next i) a c
Gets-trans first next a b c h k = λ i. Appends-trans (a i) (b i) (c i) (first i) (next i) (h i) (k i)

pub Gets-as : (bytes others : ℕ → List ℕ) (a b : Decks) → ((i : ℕ) → bytes i ≡ others i) → Gets bytes a b → Gets others a b
Gets-as bytes others a b same h = λ i. subst (Appends (a i) (b i)) (same i) (h i)

-- the records of earlier rows and of later ones
pub records_of_part-append : (ranges : List LineRange) (rows later : List LoopRow) (i : ℕ)
    → records_of_part ranges (rows ++ later) i ≡ records_of_part ranges rows i ++ records_of_part ranges later i
records_of_part-append ranges rows later i =
    ap (λ (rs : List LoopRow). flat_map record_text rs) (filter-append _ rows later)
    ∙ flat_map-append record_text (rows_in (range_at ranges i) rows) (rows_in (range_at ranges i) later)

-- bytes for the decks before a part, and none for the later ones
abbrev pub only_before : ℕ → (ℕ → List ℕ) → ℕ → List ℕ
only_before part bytes i = if nat_lt i part then bytes i else []

true_is_false : true ≡ false → ⊥
true_is_false e = cc

later : {i part : ℕ} → part ≤ i → (i ≡ part → ⊥) → part + 1 ≤ i
later h other = omega (arith, h, other)

-- bytes for one part more
only_before-more : (bytes : ℕ → List ℕ) (text : List ℕ) (part i : ℕ) → text ≡ bytes part
    → only_before part bytes i ++ only_for part text i ≡ only_before (part + 1) bytes i
only_before-more bytes text part i is = at (nat_lt i part) refl
  where
    same : (b : Bool) → (i == part) ≡ b → nat_lt i part ≡ false
        → only_before part bytes i ++ only_for part text i ≡ only_before (part + 1) bytes i
    same true e f =
        let one : i ≡ part = eqb-true i part e in
        let next : nat_lt i (part + 1) ≡ true = lt-ltb i (part + 1) (omega (arith, one)) in
        rw (f, e, next) (is ∙ ap bytes (sym one))
    same false e f =
        let next : nat_lt i (part + 1) ≡ false
        = le-ltb i (part + 1) (later (ltb-false i part f) (λ one. absurd (true_is_false (sym (eq-eqb i part one) ∙ e)))) in
        rw (f, e, next) refl

    at : (b : Bool) → nat_lt i part ≡ b
        → only_before part bytes i ++ only_for part text i ≡ only_before (part + 1) bytes i
    at true t =
        let before : i < part = ltb-true i part t in
        let other : (i == part) ≡ false = ne_eqb i part (λ one. omega (arith, one, before)) in
        let next : nat_lt i (part + 1) ≡ true = lt-ltb i (part + 1) (omega (arith, before)) in
        rw (t, other, next) (append-nil (bytes i))
    at false f = same (i == part) refl f

-- a part has been asked, and its deck got what it gets of the rows
pub Gets-next : (bytes : ℕ → List ℕ) (text : List ℕ) (part : ℕ) (old mid new : Decks) → text ≡ bytes part
    → Gets (only_before part bytes) old mid → Gets (only_for part text) mid new → Gets (only_before (part + 1) bytes) old new
Gets-next bytes text part old mid new is h k =
    Gets-as _ _ old new (λ i. only_before-more bytes text part i is) (Gets-trans _ _ old mid new h k)

abbrev nothing : List ℕ
nothing = []

none_for : (b : Bool) → nothing ≡ (if b then nothing else nothing)
none_for true = refl
none_for false = refl

pub Gets-nothing : (part : ℕ) (decks : Decks) → Gets (only_for part []) decks decks
Gets-nothing part decks = Gets-as (λ i. []) (only_for part []) decks decks (λ i. none_for (i == part)) (Gets-none decks)

-- before any part
pub Gets-first : (bytes : ℕ → List ℕ) (decks : Decks) → Gets (only_before 0 bytes) decks decks
Gets-first bytes decks =
    Gets-as (λ i. []) (only_before 0 bytes) decks decks
    (λ i. let none : nat_lt i 0 ≡ false = le-ltb i 0 (omega arith) in rw none refl) (Gets-none decks)

-- all parts, where the later ones get nothing
pub Gets-last : (bytes : ℕ → List ℕ) (parts : ℕ) (old new : Decks) → ((i : ℕ) → parts ≤ i → bytes i ≡ [])
    → Gets (only_before parts bytes) old new → Gets bytes old new
Gets-last bytes parts old new none h = Gets-as _ _ old new (λ i. at i (nat_lt i parts) refl) h
  where
    at : (i : ℕ) (b : Bool) → nat_lt i parts ≡ b → only_before parts bytes i ≡ bytes i
    at i true t = rw t refl
    at i false f = rw f (sym (none i (ltb-false i parts f)))

-- bytes for a part, and more for the same part
only_for-append : (part : ℕ) (bytes more : List ℕ) (i : ℕ) → only_for part bytes i ++ only_for part more i ≡ only_for part (bytes ++ more) i
only_for-append part bytes more i = at (i == part)
  where
    at : (b : Bool) → (if b then bytes else []) ++ (if b then more else []) ≡ (if b then bytes ++ more else [])
    at true = refl
    at false = refl

pub Gets-more : (part : ℕ) (bytes more : List ℕ) (a b c : Decks) → Gets (only_for part bytes) a b → Gets (only_for part more) b c
    → Gets (only_for part (bytes ++ more)) a c
Gets-more part bytes more a b c h k = Gets-as _ _ a c (only_for-append part bytes more) (Gets-trans _ _ a b c h k)

-- the records that a part gets of one row
pub records_of_one : (ranges : List LineRange) (row : LoopRow) (part : ℕ) (has : Bool)
    → has ≡ (nat_le (range_at ranges part).first row.line && nat_lt row.line (range_at ranges part).end)
    → records_of_part ranges (row ∷ []) part ≡ (if has then record_text row else [])
records_of_one ranges row part has e =
    ap (λ (b : Bool). flat_map record_text (if b then row ∷ [] else [])) (sym e) ∙ at has
  where
    at : (b : Bool) → flat_map record_text (if b then row ∷ [] else []) ≡ (if b then record_text row else [])
    at true = append-nil (record_text row)
    at false = refl

and_false : (b : Bool) → false ≡ (b && false)
and_false true = refl
and_false false = refl

-- a part that is none gets none
pub records_past : (ranges : List LineRange) (row : LoopRow) (part : ℕ) → length ranges ≤ part
    → records_of_part ranges (row ∷ []) part ≡ []
records_past ranges row part past =
    let none : range_at ranges part ≡ record { first = 0; end = 0 } = get_or_past ranges part _ past in
    let below : nat_lt row.line 0 ≡ false = le-ltb row.line 0 (omega arith) in
    records_of_one ranges row part false (rw (none, below) (and_false (nat_le 0 row.line)))

-- the table, the cut and the header, and then records
deck_text : (table records : List ℕ)
    → (table ++ codes "---\nline,state,ms\n") ++ records ≡ (table ++ codes "---\n") ++ (codes "line,state,ms\n" ++ records)
deck_text table records =
    append_assoc table (codes "---\nline,state,ms\n") records
    ∙ sym (append_assoc table (codes "---\n") (codes "line,state,ms\n" ++ records))

-- the deck of a part is what it gets first, and its records
pub deck_of_part-is : (table : List ℕ) (ranges : List LineRange) (rows : List LoopRow) (i : ℕ) → i < length ranges
    → only_below (length ranges) (head_of table) i ++ records_of_part ranges rows i ≡ deck_of_part table ranges rows i
deck_of_part-is table ranges rows i below =
    let t : nat_lt i (length ranges) ≡ true = lt-ltb i (length ranges) below in
    rw t (deck_text table (records_of_part ranges rows i))
