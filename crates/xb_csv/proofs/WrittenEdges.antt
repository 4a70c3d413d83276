-- Edges that are written are read back.
use Rattle.std.proofs.Common.{◌≡◌, ℕ, suc, ◌+◌, ◌-◌, ◌^◌, ◌<◌, ◌≤◌, List, [], ◌∷◌, ◌++◌, Bool, true, false, cond, Option, Some, None, length, length-append, take, drop, get_or, replicate, reverse, refl, ap, subst, ◌∙◌, arith, ne_eqb, not, codes, ◌&&◌, ◌||◌}
use Rattle.std.proofs.Math.Seq.{drop-append_seam, split_at, take-append_seam, take-length}
use Rattle.std.proofs.lemmas.List.{length-replicate, length-reverse, length-take-le, reverse-append}
use Rattle.std.specs.Prelude.{Ok, Err, bytes_eq, decimal, is_some, nat_lt, ◌==◌, option_map}
use Rattle.std.specs.Char.{is_ascii_whitespace}
use Rattle.std.specs.List.{AllByRecursion, IsDistinct, list_all, position, prefix_len, suffix_len}
use Rattle.std.specs.Option.{ok_or}
use Rattle.std.proofs.lemmas.Bool.{and_parts}
use Rattle.std.proofs.lemmas.Bool.Decides.{nat_tests}
use Rattle.std.proofs.lemmas.Fmt.{decimal_nonempty}
use Rattle.std.proofs.lemmas.Slice.Eq.{bytes_eq-Decides}
use Rattle.xb_contact.specs.declared.event.Event.{Event}
use Rattle.xb_contact.specs.declared.event.Event.TheVariants as events
use Rattle.xb_contact.specs.declared.event.Refusal.TheVariants as refusals
use Rattle.xb_contact.specs.declared.level.Level.{Level}
use Rattle.xb_contact.specs.declared.level.Level.TheVariants.{Open, Closed}
use Rattle.xb_contact.specs.declared.scale.TheConstants.{NANOSECONDS}
use Rattle.xb_contact.specs.Changes.{AreInOrder, AreNames, Change, IsName}
use Rattle.xb_contact.specs.Numbers.{number_of}
use Rattle.xb_contact.specs.Steps.{is_before, result_and_then, result_map, then_later}
use Rattle.xb_contact.proofs.StepLemmas.{line_says}
use Rattle.xb_contact.proofs.Written.{AreOthers, all_weaker, digits_are, never_after_end, one_of, others_differ, same_bytes}
use Rattle.xb_csv.specs.Cells.{trimmed, trimmed_end}
use Rattle.xb_csv.specs.Gpiomons.{EdgeSaid, GpiomonState, cut_word, edge_line_says, edge_of, edge_says, edge_taken, edge_with, first_kind, first_word, gpiomon_by, gpiomon_ends, gpiomon_line_says, gpiomon_says, gpiomon_with, is_gap, is_name, is_numbered, level_after, levels_after, named_edges, names_by, names_wire, second_kind, time_said, between}
use Rattle.xb_csv.specs.Written.{WrittenEdgesAreRead, are_edges, edge_line, edge_lines, edges_said, next_differs, seconds_text, way_text}
use Rattle.xb_csv.proofs.TurnLemmas.{AreFollowed, none_followed, turn_followed, turn_taken}
use Rattle.xb_csv.proofs.WrittenSeconds.{no_place, place_of, seconds_are_read, seconds_nonempty, seconds_pass, seconds_start}
use Rattle.xb_csv.specs.Seconds.{nanoseconds_of}

-- a text that begins, and that ends, with no blank
abbrev pub BeginsBare : List ℕ → Type 0
BeginsBare text = prefix_len is_ascii_whitespace text ≡ 0

abbrev pub EndsBare : List ℕ → Type 0
EndsBare text = (0 < length text) × (suffix_len is_ascii_whitespace text ≡ 0)

pub begins_more : (text rest : List ℕ) → 0 < length text → BeginsBare text → BeginsBare (text ++ rest)
begins_more [] rest some none = absurd (omega arith)
begins_more (byte ∷ text) rest some none = at (is_ascii_whitespace byte) none
  where
    at :
        (b : Bool) → cond b (1 + prefix_len is_ascii_whitespace text) 0 ≡ 0
        → cond b (1 + prefix_len is_ascii_whitespace (text ++ rest)) 0 ≡ 0
    at true e = absurd (omega arith)
    at false e = refl

pub ends_more : (byte : ℕ) (text : List ℕ) → EndsBare text → EndsBare (byte ∷ text)
ends_more byte text ends =
    let some : 0 < length (reverse text) = omega (arith, length-reverse text) in (
      omega arith,
      ap (prefix_len is_ascii_whitespace) (reverse-append (byte ∷ []) text)
          ∙ begins_more (reverse text) (byte ∷ []) some ends.1,
    )

pub ends_append : (text rest : List ℕ) → EndsBare rest → EndsBare (text ++ rest)
ends_append [] rest ends = ends
ends_append (byte ∷ text) rest ends = ends_more byte (text ++ rest) (ends_append text rest ends)

not-blank : (byte : ℕ) → nat_lt 32 byte ≡ true → is_ascii_whitespace byte ≡ false
not-blank byte high = grind (arith, nat_tests)

pub name_begins : (name : List ℕ) → IsName name → BeginsBare name
name_begins [] is = refl
name_begins (byte ∷ name) is =
    let parts = and_parts (nat_lt 32 byte) (list_all (nat_lt 32) name) is.1 in
    ap (λ t. cond t (1 + prefix_len is_ascii_whitespace name) 0) (not-blank byte parts.0)

pub name_ends : (name : List ℕ) → IsName name → EndsBare name
name_ends [] is = absurd (omega arith)
name_ends (byte ∷ []) is = (omega arith, name_begins (byte ∷ []) is)
name_ends (byte ∷ next ∷ name) is =
    let parts = and_parts (nat_lt 32 byte) (list_all (nat_lt 32) (next ∷ name)) is.1 in
    ends_more byte (next ∷ name) (name_ends (next ∷ name) (omega arith, parts.1))

trimmed-end : (text : List ℕ) → EndsBare text → trimmed_end text ≡ text
trimmed-end text ends =
    let all : length text - 0 ≡ length text = omega arith in
    ap (λ n. take (length text - n) text) ends.1 ∙ ap (λ n. take n text) all ∙ take-length text

pub trimmed_same : (text : List ℕ) → BeginsBare text → EndsBare text → trimmed text ≡ text
unfolding trimmed
trimmed_same text begins ends = ap (λ n. trimmed_end (drop n text)) begins ∙ trimmed-end text ends

pub trimmed_blank : (text : List ℕ) → BeginsBare text → EndsBare text → trimmed (32 ∷ text) ≡ text
unfolding trimmed
trimmed_blank text begins ends = ap (λ n. trimmed_end (drop (1 + n) (32 ∷ text))) begins ∙ trimmed-end text ends

no-gap : (word : List ℕ) → IsName word → list_all (λ b. not (is_gap b)) word ≡ true
no-gap word is = all_weaker (nat_lt 32) (λ b. not (is_gap b)) (λ b h. grind (arith, nat_tests)) word is.1

-- the first word of a text
pub word_cut :
    (word rest : List ℕ) → IsName word → BeginsBare rest → EndsBare rest → first_word (word ++ 32 ∷ rest) ≡ (word, rest)
unfolding first_word
word_cut word rest is begins ends =
    let text : List ℕ = word ++ 32 ∷ rest in
    let same : trimmed text ≡ text =
    trimmed_same text (begins_more word (32 ∷ rest) is.0 (name_begins word is))
    (ends_append word (32 ∷ rest) (ends_more 32 rest ends)) in
    let gap : position is_gap text ≡ Some (length word) =
    place_of is_gap word rest 32 (no-gap word is) refl in
    ap (λ t. cut_word t (position is_gap t)) same
    ∙ ap (cut_word text) gap
    ∙ ap (λ front. (front, trimmed (drop (length word) text))) (take-append_seam word (32 ∷ rest))
    ∙ ap (λ back. (word, trimmed back)) (drop-append_seam word (32 ∷ rest))
    ∙ ap (λ back. (word, back)) (trimmed_blank rest begins ends)

-- a name is one word
one-word : (word : List ℕ) → IsName word → first_word word ≡ (word, [])
unfolding first_word
one-word word is =
    ap (λ t. cut_word t (position is_gap t)) (trimmed_same word (name_begins word is) (name_ends word is))
    ∙ ap (cut_word word) (no_place is_gap word (no-gap word is))

-- what gpiomon writes of a wire after a chip is no name, which has no blank
chip-other : (own name : List ℕ) → IsName own → bytes_eq own (codes "gpiochip0 " ++ name) ≡ false
chip-other own name is = at (bytes_eq own (codes "gpiochip0 " ++ name)) refl
  where
    at : (b : Bool) → bytes_eq own (codes "gpiochip0 " ++ name) ≡ b → b ≡ false
    at false e = refl
    at true e =
        let same : own ≡ codes "gpiochip0 " ++ name = (bytes_eq-Decides own (codes "gpiochip0 " ++ name)).0 e in
        let P : List ℕ → Type 0 = λ t. list_all (nat_lt 32) t ≡ true in
        let blank : false ≡ true = subst P same is.1 in
        cc

none-other : (own : List ℕ) → IsName own → is_name own [] ≡ false
unfolding between
none-other [] is = absurd (omega (arith, is.0))
none-other (byte ∷ own) is = refl

-- it stands in no quotes
pub chip_bare : (rest : List ℕ) → between 34 34 (codes "gpiochip0 " ++ rest) ≡ None
unfolding between
chip_bare rest = no-quotes _ _ _
  where
    no-quotes : (long last : Bool) (inner : List ℕ) → cond ((long && false) && last) (Some inner) None ≡ None
    no-quotes true last inner = refl
    no-quotes false last inner = refl

-- it names the wire whose name stands after the chip
chip-named :
    (own name : List ℕ) → IsName own → IsName name → names_wire own (codes "gpiochip0 " ++ name) ≡ bytes_eq own name
unfolding names_wire
chip-named own name mine is =
    let text : List ℕ = codes "gpiochip0 " ++ name in
    let words : first_word text ≡ (codes "gpiochip0", name) =
    word_cut (codes "gpiochip0") name (omega arith, refl) (name_begins name is) (name_ends name is) in
    let same : Bool = bytes_eq own name in
    ap (names_by own text) (chip_bare name)
    ∙ ap (λ t. t || (bytes_eq own (first_word text).1 || is_numbered own (first_word text).1)) (chip-other own name mine)
    ∙ ap (λ (w : List ℕ × List ℕ). bytes_eq own w.1 || is_numbered own w.1) words
    ∙ ap (λ (w : List ℕ × List ℕ). same || (is_some (number_of w.0) && (bytes_eq own w.0 || is_name own w.1))) (one-word name is)
    ∙ ap (λ t. same || (is_some (number_of name) && (same || t))) (none-other own mine)
    ∙ either same (is_some (number_of name))
  where
    either : (same number : Bool) → (same || (number && (same || false))) ≡ same
    either true number = refl
    either false true = refl
    either false false = refl

abbrev by-kind : List ℕ → List ℕ × List ℕ → Option EdgeSaid
by-kind time kind =
    cond (length kind.1 == 0) None (option_map (λ level. edge_with time kind.1 level) (level_after kind.0))

pub decimal_name : (number : ℕ) → number < 2 ^ 64 → IsName (decimal number)
decimal_name number small = (decimal_nonempty number small, digits_are (nat_lt 32) (λ digit low. grind (arith, nat_tests)) number small)

way-name : (level : Level) → IsName (way_text level)
way-name Open = (omega arith, refl)
way-name Closed = (omega arith, refl)

way-read : (level : Level) → level_after (way_text level) ≡ Some level
way-read Open = refl
way-read Closed = refl

-- the time of a line is a word
pub seconds_name : (tick : ℕ) → tick < 2 ^ 64 → IsName (seconds_text tick)
seconds_name tick small =
    (seconds_nonempty tick small, seconds_pass (nat_lt 32) (λ digit low. grind (arith, nat_tests)) refl tick small)

second-read :
    (tick : ℕ) (level : Level) (name : List ℕ) → tick < 2 ^ 64 → IsName name
    → second_kind (seconds_text tick ++ 32 ∷ (way_text level ++ (codes " gpiochip0 " ++ name)))
    ≡ Some (edge_with (seconds_text tick) (codes "gpiochip0 " ++ name) level)
unfolding second_kind
second-read tick level name small is =
    let time : List ℕ = seconds_text tick in
    let chip : List ℕ = codes "gpiochip0 " ++ name in
    let ends : EndsBare chip = ends_append (codes "gpiochip0 ") name (name_ends name is) in
    let later : List ℕ = way_text level ++ 32 ∷ chip in
    let begins : BeginsBare later =
    begins_more (way_text level) (32 ∷ chip) (way-name level).0 (name_begins (way_text level) (way-name level)) in
    ap (λ w. by-kind w.0 (first_word w.1))
    (word_cut time later (seconds_name tick small) begins (ends_append (way_text level) (32 ∷ chip) (ends_more 32 chip ends)))
    ∙ ap (by-kind time) (word_cut (way_text level) chip (way-name level) refl ends)
    ∙ ap (λ t. cond t None (option_map (λ l. edge_with time chip l) (level_after (way_text level))))
    (ne_eqb (length chip) 0 (λ e. absurd (omega (arith, ends.0))))
    ∙ ap (option_map (λ l. edge_with time chip l)) (way-read level)

-- the wires that a text after a chip names
named-none :
    (i : ℕ) (name : List ℕ) (level : Level) (names : List (List ℕ)) → IsName name → AllByRecursion IsName names
    → AreOthers name names → named_edges i (codes "gpiochip0 " ++ name) level names ≡ []
named-none i name level [] is words all = refl
named-none i name level (own ∷ names) is words all =
    let rest = named_edges (i + 1) (codes "gpiochip0 " ++ name) level names in
    ap (λ t. cond t (events.Edge i level ∷ rest) rest) (chip-named own name words.0 is ∙ all.0)
    ∙ named-none (i + 1) name level names is words.1 all.1

named-one :
    (i : ℕ) (name : List ℕ) (level : Level) (before after : List (List ℕ)) → IsName name
    → AllByRecursion IsName (before ++ name ∷ after) → AreOthers name before → AreOthers name after
    → named_edges i (codes "gpiochip0 " ++ name) level (before ++ name ∷ after) ≡ events.Edge (i + length before) level ∷ []
named-one i name level [] after is words first last =
    let rest = named_edges (i + 1) (codes "gpiochip0 " ++ name) level after in
    let here : i ≡ i + 0 = omega arith in
    ap (λ t. cond t (events.Edge i level ∷ rest) rest) (chip-named name name is is ∙ same_bytes name)
    ∙ ap (λ later. events.Edge i level ∷ later) (named-none (i + 1) name level after is words.1 last)
    ∙ ap (λ k. events.Edge k level ∷ []) here
named-one i name level (own ∷ before) after is words first last =
    let rest = named_edges (i + 1) (codes "gpiochip0 " ++ name) level (before ++ name ∷ after) in
    let there : i + 1 + length before ≡ i + length (own ∷ before) = omega arith in
    ap (λ t. cond t (events.Edge i level ∷ rest) rest) (chip-named own name words.0 is ∙ first.0)
    ∙ named-one (i + 1) name level before after is words.1 first.1 last
    ∙ ap (λ k. events.Edge k level ∷ []) there

pub own_name :
    (names : List (List ℕ)) (wire : ℕ) (level : Level) → AreNames names → wire < length names
    → IsName (get_or names wire [])
    × (named_edges 0 (codes "gpiochip0 " ++ get_or names wire []) level names ≡ events.Edge wire level ∷ [])
own_name names wire level lawful within =
    let name : List ℕ = get_or names wire [] in
    let before : List (List ℕ) = take wire names in
    let after : List (List ℕ) = drop (suc wire) names in
    let all : names ≡ before ++ name ∷ after = split_at names wire [] within in
    let P : List (List ℕ) → Type 0 = λ them. AllByRecursion IsName them in
    let Q : List (List ℕ) → Type 0 = λ them. IsDistinct bytes_eq them in
    let words : AllByRecursion IsName (before ++ name ∷ after) = subst P all lawful.words in
    let is : IsName name = one_of IsName name before after words in
    let apart = others_differ name before after (subst Q all lawful.distinct) in
    let count : 0 + length before ≡ wire = omega (arith, length-take-le wire names (omega arith)) in (
      is,
      ap (named_edges 0 (codes "gpiochip0 " ++ name) level) all ∙ named-one 0 name level before after is words apart.0 apart.1
          ∙ ap (λ k. events.Edge k level ∷ []) count,
    )

-- the levels of wires after an edge: that of other ones, and of its own
levels-none :
    (lossy : Bool) (name : List ℕ) (level : Level) (names : List (List ℕ)) (levels : List (Option Level)) → IsName name
    → AllByRecursion IsName names → AreOthers name names
    → levels_after lossy (codes "gpiochip0 " ++ name) level names levels ≡ Ok levels
levels-none lossy name level [] [] is words all = refl
levels-none lossy name level (own ∷ names) [] is words all = refl
levels-none lossy name level [] (last ∷ levels) is words all = refl
levels-none lossy name level (own ∷ names) (last ∷ levels) is words all =
    let rest = levels_after lossy (codes "gpiochip0 " ++ name) level names levels in
    ap (λ t. result_and_then (λ now. result_map (λ later. now ∷ later) rest) (cond t (edge_taken lossy last level) (Ok last)))
    (chip-named own name words.0 is ∙ all.0)
    ∙ ap (result_map (λ later. last ∷ later)) (levels-none lossy name level names levels is words.1 all.1)

levels-one :
    (lossy : Bool) (name : List ℕ) (level : Level) (before after : List (List ℕ)) (firsts : List (Option Level)) (last : Option Level)
    (lasts : List (Option Level)) → IsName name → AllByRecursion IsName (before ++ name ∷ after) → AreOthers name before
    → AreOthers name after → length firsts ≡ length before → edge_taken lossy last level ≡ Ok (Some level)
    → levels_after lossy (codes "gpiochip0 " ++ name) level (before ++ name ∷ after) (firsts ++ last ∷ lasts)
    ≡ Ok (firsts ++ Some level ∷ lasts)
levels-one lossy name level [] after [] last lasts is words first others even taken =
    let rest = levels_after lossy (codes "gpiochip0 " ++ name) level after lasts in
    ap (λ t. result_and_then (λ now. result_map (λ later. now ∷ later) rest) (cond t (edge_taken lossy last level) (Ok last)))
    (chip-named name name is is ∙ same_bytes name)
    ∙ ap (result_and_then (λ now. result_map (λ later. now ∷ later) rest)) taken
    ∙ ap (result_map (λ later. Some level ∷ later)) (levels-none lossy name level after lasts is words.1 others)
levels-one lossy name level (own ∷ before) after (one ∷ firsts) last lasts is words first others even taken =
    let rest = levels_after lossy (codes "gpiochip0 " ++ name) level (before ++ name ∷ after) (firsts ++ last ∷ lasts) in
    ap (λ t. result_and_then (λ now. result_map (λ later. now ∷ later) rest) (cond t (edge_taken lossy one level) (Ok one)))
    (chip-named own name words.0 is ∙ first.0)
    ∙ ap (result_map (λ later. one ∷ later))
    (levels-one lossy name level before after firsts last lasts is words.1 first.1 others (omega arith) taken)
levels-one lossy name level [] after (one ∷ firsts) last lasts is words first others even taken = absurd (omega arith)
levels-one lossy name level (own ∷ before) after [] last lasts is words first others even taken = absurd (omega arith)

-- so an edge is taken, after which the rest are still edges
edge-taken :
    (lossy : Bool) (names : List (List ℕ)) (levels : List (Option Level)) (edge : Change) (rest : List Change) → AreNames names
    → edge.wire < length names → length levels ≡ length names → are_edges (edge ∷ rest) ≡ true
    → AreFollowed levels (edge ∷ rest)
    → (new : List (Option Level))
    × (levels_after lossy (codes "gpiochip0 " ++ get_or names edge.wire []) edge.level names levels ≡ Ok new)
    × (length new ≡ length names) × AreFollowed new rest
edge-taken lossy names levels edge rest lawful within same turns follows =
    let wire : ℕ = edge.wire in
    let name : List ℕ = get_or names wire [] in
    let text : List ℕ = codes "gpiochip0 " ++ name in
    let before : List (List ℕ) = take wire names in
    let after : List (List ℕ) = drop (suc wire) names in
    let firsts : List (Option Level) = take wire levels in
    let old : Option Level = get_or levels wire None in
    let lasts : List (Option Level) = drop (suc wire) levels in
    let new : List (Option Level) = firsts ++ Some edge.level ∷ lasts in
    let all : names ≡ before ++ name ∷ after = split_at names wire [] within in
    let own : levels ≡ firsts ++ old ∷ lasts = split_at levels wire None (omega (arith, same)) in
    let P : List (List ℕ) → Type 0 = λ them. AllByRecursion IsName them in
    let Q : List (List ℕ) → Type 0 = λ them. IsDistinct bytes_eq them in
    let R : List (Option Level) → Type 0 = λ them. AreFollowed them (edge ∷ rest) in
    let words : AllByRecursion IsName (before ++ name ∷ after) = subst P all lawful.words in
    let is : IsName name = one_of IsName name before after words in
    let apart = others_differ name before after (subst Q all lawful.distinct) in
    let count : wire ≡ length firsts = omega (arith, same, length-take-le wire levels (omega (arith, same))) in
    let even : length firsts ≡ length before = omega (arith, count, length-take-le wire names (omega arith)) in
    let longer : length new ≡ length names =
    omega (arith, same, ap length own, length-append firsts (old ∷ lasts), length-append firsts (Some edge.level ∷ lasts)) in (
      new,
      ap (λ them. levels_after lossy text edge.level them levels) all
          ∙ ap (levels_after lossy text edge.level (before ++ name ∷ after)) own
          ∙ levels-one lossy name edge.level before after firsts old lasts is words apart.0 apart.1 even
          (turn_taken lossy edge rest old (follows wire)),
      longer,
      turn_followed firsts lasts old edge rest count turns (subst R own follows),
    )

-- a line
line-read :
    (lossy : Bool) (names : List (List ℕ)) (levels new : List (Option Level)) (last : Option ℕ) (edge : Change) → AreNames names
    → edge.wire < length names → 2 ^ 62 ≤ edge.tick → edge.tick < 2 ^ 63 → is_before edge.tick last ≡ false
    → levels_after lossy (codes "gpiochip0 " ++ get_or names edge.wire []) edge.level names levels ≡ Ok new
    → gpiomon_line_says (gpiomon_by lossy names levels last) (edge_line names edge)
    ≡ Ok (time_said last edge.tick ++ events.Edge edge.wire edge.level ∷ [], gpiomon_by lossy names new (Some edge.tick))
line-read lossy names levels new last edge lawful within late early order taken =
    let name : List ℕ = get_or names edge.wire [] in
    let own = own_name names edge.wire edge.level lawful within in
    let time : List ℕ = seconds_text edge.tick in
    let later : List ℕ = 32 ∷ (way_text edge.level ++ (codes " gpiochip0 " ++ name)) in
    let line : List ℕ = time ++ later in
    let state : GpiomonState = gpiomon_by lossy names levels last in
    let said : List Event = time_said last edge.tick in
    let small : edge.tick < 2 ^ 64 = omega arith in
    let some : 0 < length line = omega (arith, length-append time later, seconds_nonempty edge.tick small) in
    let ends : EndsBare line =
    ends_append time later (ends_more 32 _ (ends_append (way_text edge.level) _ (ends_append (codes " gpiochip0 ") name (name_ends name own.0)))) in
    let same : trimmed line ≡ line =
    trimmed_same line (begins_more time later (seconds_nonempty edge.tick small) (name_begins time (seconds_name edge.tick small))) ends in
    let chip : List ℕ = codes "gpiochip0 " ++ name in
    let read : edge_of line ≡ Some (edge_with time chip edge.level) =
    ap (λ t. cond t (first_kind line) (second_kind line)) (seconds_start 101 (codes "vent:") edge.tick later small refl)
    ∙ second-read edge.tick edge.level name small own.0 in
    ap (λ t. cond (length t == 0) (Ok ([], state)) (edge_line_says state t)) same
    ∙ ap (λ t. cond t (Ok ([], state)) (edge_line_says state line)) (ne_eqb (length line) 0 (λ e. absurd (omega (arith, some))))
    ∙ ap (λ found. result_and_then (λ edge. result_and_then (λ time. edge_says state edge time) (ok_or (nanoseconds_of edge.time) refusals.Time)) (ok_or found refusals.Edge)) read
    ∙ ap (λ found. result_and_then (λ time. edge_says state (edge_with (seconds_text edge.tick) chip edge.level) time) (ok_or found refusals.Time)) (seconds_are_read edge.tick late early)
    ∙ ap (λ t. cond t (Err refusals.Backwards) (result_map (λ now. (said ++ named_edges 0 chip edge.level names, gpiomon_by lossy names now (Some edge.tick))) (levels_after lossy chip edge.level names levels))) order
    ∙ ap (result_map (λ now. (said ++ named_edges 0 chip edge.level names, gpiomon_by lossy names now (Some edge.tick)))) taken
    ∙ ap (λ named. Ok (said ++ named, gpiomon_by lossy names new (Some edge.tick))) own.1

-- the edges after one at this tick
rest-read :
    (lossy : Bool) (names : List (List ℕ)) (levels : List (Option Level)) (tick end : ℕ) (edges : List Change) → AreNames names
    → are_edges edges ≡ true → AreInOrder (length names) tick edges end → length levels ≡ length names
    → AreFollowed levels edges → 2 ^ 62 ≤ tick → end < 2 ^ 63
    → gpiomon_says (gpiomon_by lossy names levels (Some tick)) (edge_lines names edges) ≡ Ok (edges_said edges)
rest-read lossy names levels tick end [] lawful turns order same follows late early = refl
rest-read lossy names levels tick end (edge ∷ rest) lawful turns order same follows late early =
    let after : edge.tick ≤ end = never_after_end (length names) edge.tick rest end order.2 in
    let next : tick ≤ edge.tick = order.1 in
    let parts = and_parts (next_differs edge.wire edge.level rest) (are_edges rest) turns in
    let taken = edge-taken lossy names levels edge rest lawful order.0 same turns follows in
    let said : List Event = events.At edge.tick ∷ [] in
    let times : is_before edge.tick (Some tick) ≡ false = grind (arith, nat_tests) in
    line_says gpiomon_line_says gpiomon_ends (gpiomon_by lossy names levels (Some tick)) (gpiomon_by lossy names taken.0 (Some edge.tick))
    (edge_line names edge) (edge_lines names rest) (said ++ events.Edge edge.wire edge.level ∷ [])
    (line-read lossy names levels taken.0 (Some tick) edge lawful order.0 (omega arith) (omega arith) times taken.1)
    ∙ ap (then_later (said ++ events.Edge edge.wire edge.level ∷ []))
    (rest-read lossy names taken.0 edge.tick end rest lawful parts.1 order.2 taken.2 taken.3 (omega arith) early)

pub written_edges_are_read : WrittenEdgesAreRead
written_edges_are_read lossy names [] end lawful turns order early = refl
written_edges_are_read lossy names (edge ∷ rest) end lawful turns order early =
    let after : edge.tick ≤ end = never_after_end (length names) edge.tick rest end order.2 in
    let late : 2 ^ 62 ≤ edge.tick = order.1 in
    let parts = and_parts (next_differs edge.wire edge.level rest) (are_edges rest) turns in
    let levels : List (Option Level) = replicate (length names) None in
    let same : length levels ≡ length names = length-replicate (length names) None in
    let taken = edge-taken lossy names levels edge rest lawful order.0 same turns (none_followed (length names) (edge ∷ rest)) in
    let said : List Event = events.Ticks NANOSECONDS ∷ events.At edge.tick ∷ [] in
    line_says gpiomon_line_says gpiomon_ends (gpiomon_with lossy names None) (gpiomon_by lossy names taken.0 (Some edge.tick))
    (edge_line names edge) (edge_lines names rest) (said ++ events.Edge edge.wire edge.level ∷ [])
    (line-read lossy names levels taken.0 None edge lawful order.0 late (omega arith) refl taken.1)
    ∙ ap (then_later (said ++ events.Edge edge.wire edge.level ∷ []))
    (rest-read lossy names taken.0 edge.tick end rest lawful parts.1 order.2 taken.2 taken.3 late early)
