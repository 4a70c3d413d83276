-- What a hearing makes of the pairs that windows see: its levels and places left out.
use Rattle.std.proofs.Common.{◌≡◌, ◌∙◌, ℕ, ◌+◌, Bool, true, false, ◌&&◌, List, [], ◌∷◌, ◌++◌, map, sym, ap, refl, Option, Some, None, append_assoc}
use Rattle.std.specs.Prelude.{◌||◌, ◌==◌, if◌then◌else◌, nat_le, nat_lt}
use Rattle.std.proofs.lemmas.Bool.{false≢true}
use Rattle.std.proofs.lemmas.List.{map-append}
use Rattle.xb_model.specs.declared.key.Tone.{Tone as Pair}
use Rattle.xb_model.specs.Image.{image_from}
use Rattle.xb_ear.specs.declared.sight.Sight.{Sight}
use Rattle.xb_ear.specs.declared.hearing.Heard.{Heard}
use Rattle.xb_ear.specs.declared.hearing.Hearing.{Hearing}
use Rattle.xb_ear.specs.declared.hearing.TheConstants.{GAP_WINDOWS, PART_WINDOWS}
use Rattle.xb_ear.specs.Hearings.{begun, counted, counts, ended, goes_on, hearer, is_same, is_same_pair, joins, lengthened, listed, run_on, settled, sounds, stronger, strongest}
use Rattle.xb_ear.specs.LongRuns.{is_same_label, label, needed_of, one}
use Rattle.xb_ear.proofs.Standing.{same-pair}

-- what is known, by pairs alone
pub record Known : Type 0 where
  pub seen : Option Pair
  pub count : ℕ
  pub part : ℕ
  pub away : ℕ
  pub sounding : Option Pair

abbrev pub known : Hearing → Known
known h = record {
  seen = label h.seen;
  count = h.count;
  part = h.part;
  away = h.away;
  sounding = label (sounds h.sounding);
}

abbrev pub joins_after : Known → Option Pair → Bool
joins_after k l = is_same_label k.seen l && ((k.away == 0) || nat_le PART_WINDOWS k.part)

abbrev pub count_after : Known → Option Pair → ℕ
count_after k l = if joins_after k l then counted k.count else 1

abbrev pub part_after : Known → Option Pair → ℕ
part_after k l = if joins_after k l then (if k.away == 0 then counted k.part else 1) else 1

-- whether the run is long enough, with one window more
abbrev pub enough : Known → Option Pair → Bool
enough k None = nat_le GAP_WINDOWS (counted k.away)
enough k (Some p) = nat_le PART_WINDOWS (part_after k (Some p)) && nat_le (needed_of (Some p)) (count_after k (Some p))

abbrev pub after : Known → Option Pair → Known
after k None = record {
  seen = if nat_le GAP_WINDOWS (counted k.away) then None else k.seen;
  count = k.count;
  part = k.part;
  away = counted k.away;
  sounding = if enough k None then None else k.sounding;
}
after k (Some p) = record {
  seen = Some p;
  count = count_after k (Some p);
  part = part_after k (Some p);
  away = 0;
  sounding = if enough k (Some p) then Some p else k.sounding;
}

abbrev pub gives : Known → Option Pair → List Pair
gives k l = if enough k l then (if is_same_label k.sounding l then [] else one k.sounding) else []

abbrev pub pair_heard : Heard → Pair
pair_heard heard = heard.sight.pair

same-label : (a b : Option Sight) → is_same a b ≡ is_same_label (label a) (label b)
same-label None None = refl
same-label None (Some b) = refl
same-label (Some a) None = refl
same-label (Some a) (Some b) = refl

stronger-pair : (a b : Sight) → is_same_pair a.pair b.pair ≡ true → (stronger a b).pair ≡ b.pair
stronger-pair a b same = by (nat_lt (a.low + a.high) (b.low + b.high))
  where
    by : (c : Bool) → (if c then b else a).pair ≡ b.pair
    by true = refl
    by false = same-pair a.pair b.pair same

strongest-label : (a b : Option Sight) → is_same a b ≡ true → label (strongest a b) ≡ label b
strongest-label None b same = refl
strongest-label (Some a) None same = absurd (false≢true same)
strongest-label (Some a) (Some b) same = ap (λ (p : Pair). Some p) (stronger-pair a b same)

-- the run, with one window more that sees a pair
record IsRun (h r : Hearing) (l : Option Pair) : Type 0 where
  sees : label r.seen ≡ l
  long : r.count ≡ count_after (known h) l
  row : r.part ≡ part_after (known h) l
  near : r.away ≡ 0
  still : r.sounding ≡ h.sounding

joins-is : (h : Hearing) (s : Sight) → joins h (Some s) ≡ joins_after (known h) (Some s.pair)
joins-is h s = ap (λ (b : Bool). b && ((h.away == 0) || nat_le PART_WINDOWS h.part)) (same-label h.seen (Some s))

joins-same : (a b : Bool) → (a && b) ≡ true → a ≡ true
joins-same true b e = refl
joins-same false b e = absurd (false≢true e)

run-is : (h : Hearing) (s : Sight) → IsRun h (run_on h (Some s)) (Some s.pair)
run-is h s = by (joins h (Some s)) refl
  where
    by : (b : Bool) → joins h (Some s) ≡ b
        → IsRun h (if b
        then record h {
          seen = strongest h.seen (Some s);
          count = counted h.count;
          part = if h.away == 0 then counted h.part else 1;
          away = 0;
          at = counted h.at;
        }
        else record h { seen = Some s; first = h.at; count = 1; part = 1; away = 0; at = counted h.at }) (Some s.pair)
    by true e = record {
      sees = strongest-label h.seen (Some s)
          (joins-same (is_same h.seen (Some s)) ((h.away == 0) || nat_le PART_WINDOWS h.part) e);
      long = sym (ap (λ (c : Bool). if c then counted h.count else 1) (sym (joins-is h s) ∙ e));
      row = sym (ap (λ (c : Bool). if c then (if h.away == 0 then counted h.part else 1) else 1) (sym (joins-is h s) ∙ e));
      near = refl;
      still = refl;
    }
    by false e = record {
      sees = refl;
      long = sym (ap (λ (c : Bool). if c then counted h.count else 1) (sym (joins-is h s) ∙ e));
      row = sym (ap (λ (c : Bool). if c then (if h.away == 0 then counted h.part else 1) else 1) (sym (joins-is h s) ∙ e));
      near = refl;
      still = refl;
    }

lengthened-label : (r : Hearing) (o : Option Heard) (s : Option Sight) → is_same (sounds o) s ≡ true
    → label (sounds (lengthened r o s)) ≡ label s
lengthened-label r None None same = refl
lengthened-label r None (Some s) same = absurd (false≢true same)
lengthened-label r (Some h) None same = absurd (false≢true same)
lengthened-label r (Some h) (Some s) same = ap (λ (p : Pair). Some p) (stronger-pair h.sight s same)

begun-label : (r : Hearing) (s : Option Sight) → label (sounds (begun r s)) ≡ label s
begun-label r None = refl
begun-label r (Some s) = refl

abbrev known_by : Option Pair → ℕ → ℕ → ℕ → Option Pair → Known
known_by seen count part away sounding =
    record { seen = seen; count = count; part = part; away = away; sounding = sounding }

settled-known : (r : Hearing) (s : Sight) → label r.seen ≡ Some s.pair
    → known (settled r (Some s))
    ≡ known_by (label r.seen) r.count r.part r.away (if counts r (Some s) then label r.seen else label (sounds r.sounding))
settled-known r s sees = by (counts r (Some s)) (goes_on r (Some s)) refl
  where
    goes : is_same (sounds r.sounding) (Some s) ≡ true → is_same (sounds r.sounding) r.seen ≡ true
    goes g =
        same-label (sounds r.sounding) r.seen ∙ ap (λ (l : Option Pair). is_same_label (label (sounds r.sounding)) l) sees
        ∙ sym (same-label (sounds r.sounding) (Some s)) ∙ g

    by : (b c : Bool) → goes_on r (Some s) ≡ c
        → known (if b then (if c
        then record r { sounding = lengthened r r.sounding r.seen }
        else record r { sounding = begun r r.seen }) else r)
        ≡ known_by (label r.seen) r.count r.part r.away (if b then label r.seen else label (sounds r.sounding))
    by true true g =
        ap (λ (l : Option Pair). known_by (label r.seen) r.count r.part r.away l) (lengthened-label r r.sounding r.seen (goes g))
    by true false g = ap (λ (l : Option Pair). known_by (label r.seen) r.count r.part r.away l) (begun-label r r.seen)
    by false c g = refl

pub listed-one : (o : Option Heard) → map pair_heard (listed o) ≡ one (label (sounds o))
listed-one None = refl
listed-one (Some h) = refl

ended-pairs : (r : Hearing) (j : Option Sight) → map pair_heard (listed (ended r j))
    ≡ (if counts r j then (if goes_on r j then [] else one (label (sounds r.sounding))) else [])
ended-pairs r j = by (counts r j) (goes_on r j)
  where
    by : (b c : Bool) → map pair_heard (listed (if b then (if c then None else r.sounding) else None))
        ≡ (if b then (if c then [] else one (label (sounds r.sounding))) else [])
    by true true = refl
    by true false = listed-one r.sounding
    by false c = refl

-- whether the run counts
counts-is : (h : Hearing) (j : Option Sight) → counts (run_on h j) j ≡ enough (known h) (label j)
counts-is h None = refl
counts-is h (Some s) =
    let r = run_on h (Some s) in
    let run = run-is h s in
    let need : ℕ = needed_of (Some s.pair) in
    ap (λ (n : ℕ). nat_le PART_WINDOWS n && nat_le need r.count) run.row
    ∙ ap (λ (n : ℕ). nat_le PART_WINDOWS (part_after (known h) (Some s.pair)) && nat_le need n) run.long

-- a window changes what is known by its pair alone, and gives pairs by it alone
pub known-next : (h : Hearing) (j : Option Sight) → known (hearer.next h j) ≡ after (known h) (label j)
known-next h None = by (nat_le GAP_WINDOWS (counted h.away)) (is_same (sounds h.sounding) None) refl
  where
    quiet : Bool → Hearing
    quiet b = record h { seen = if b then None else h.seen; away = counted h.away; at = counted h.at }

    by : (b c : Bool) → is_same (sounds h.sounding) None ≡ c
        → known (if b then (if c
        then record (quiet b) { sounding = lengthened (quiet b) h.sounding None }
        else record (quiet b) { sounding = begun (quiet b) None }) else quiet b)
        ≡ known_by (if b then None else label h.seen) h.count h.part (counted h.away) (if b then None else label (sounds h.sounding))
    by true true g =
        ap (λ (l : Option Pair). known_by None h.count h.part (counted h.away) l) (lengthened-label (quiet true) h.sounding None g)
    by true false g = refl
    by false c g = refl
known-next h (Some s) =
    let r = run_on h (Some s) in
    let run = run-is h s in
    let k = known h in
    let l : Option Pair = Some s.pair in
    let c : Bool = counts r (Some s) in
    settled-known r s run.sees
    ∙ ap (λ (x : Option Pair). known_by x r.count r.part r.away (if c then x else label (sounds r.sounding))) run.sees
    ∙ ap (λ (n : ℕ). known_by l n r.part r.away (if c then l else label (sounds r.sounding))) run.long
    ∙ ap (λ (n : ℕ). known_by l (count_after k l) n r.away (if c then l else label (sounds r.sounding))) run.row
    ∙ ap (λ (n : ℕ). known_by l (count_after k l) (part_after k l) n (if c then l else label (sounds r.sounding))) run.near
    ∙ ap (λ (o : Option Heard). known_by l (count_after k l) (part_after k l) 0 (if c then l else label (sounds o))) run.still
    ∙ ap (λ (b : Bool). known_by l (count_after k l) (part_after k l) 0 (if b then l else k.sounding)) (counts-is h (Some s))

still-is : (h : Hearing) (j : Option Sight) → (run_on h j).sounding ≡ h.sounding
still-is h None = refl
still-is h (Some s) = (run-is h s).still

pub pairs-given : (h : Hearing) (j : Option Sight) → map pair_heard (hearer.outs h j) ≡ gives (known h) (label j)
pairs-given h j =
    let r = run_on h j in
    let k = known h in
    let on : goes_on r j ≡ is_same_label k.sounding (label j) =
    same-label (sounds r.sounding) j
    ∙ ap (λ (o : Option Heard). is_same_label (label (sounds o)) (label j)) (still-is h j) in
    ended-pairs r j
    ∙ ap (λ (b : Bool). if counts r j then (if b then [] else one (label (sounds r.sounding))) else []) on
    ∙ ap (λ (o : Option Heard). if counts r j then (if is_same_label k.sounding (label j) then [] else one (label (sounds o))) else []) (still-is h j)
    ∙ ap (λ (b : Bool). if b then (if is_same_label k.sounding (label j) then [] else one k.sounding) else []) (counts-is h j)

-- what a list of pairs leaves known, and gives
abbrev pub after_all : Known → List (Option Pair) → Known
after_all k [] = k
after_all k (l ∷ ls) = after_all (after k l) ls

abbrev pub gives_all : Known → List (Option Pair) → List Pair
gives_all k [] = []
gives_all k (l ∷ ls) = gives k l ++ gives_all (after k l) ls

-- what is given, and what sounds at the end
abbrev pub whole : Known → List (Option Pair) → List Pair
whole k ls = gives_all k ls ++ one (after_all k ls).sounding

pub whole-step : (k : Known) (l : Option Pair) (ls : List (Option Pair))
    → whole k (l ∷ ls) ≡ gives k l ++ whole (after k l) ls
whole-step k l ls = append_assoc (gives k l) (gives_all (after k l) ls) (one (after_all (after k l) ls).sounding)

pub whole-append : (xs ys : List (Option Pair)) (k : Known)
    → whole k (xs ++ ys) ≡ gives_all k xs ++ whole (after_all k xs) ys
whole-append [] ys k = refl
whole-append (x ∷ xs) ys k =
    whole-step k x (xs ++ ys) ∙ ap (λ (ps : List Pair). gives k x ++ ps) (whole-append xs ys (after k x))
    ∙ sym (append_assoc (gives k x) (gives_all (after k x) xs) (whole (after_all (after k x) xs) ys))

-- the pairs of what is heard
pub pairs-heard : (h : Hearing) (js : List (Option Sight))
    → map pair_heard (image_from hearer h js) ≡ gives_all (known h) (map label js)
pairs-heard h [] = refl
pairs-heard h (j ∷ js) =
    map-append pair_heard (hearer.outs h j) (image_from hearer (hearer.next h j) js)
    ∙ ap (λ (ps : List Pair). ps ++ map pair_heard (image_from hearer (hearer.next h j) js)) (pairs-given h j)
    ∙ ap (λ (ps : List Pair). gives (known h) (label j) ++ ps)
    (pairs-heard (hearer.next h j) js ∙ ap (λ (k : Known). gives_all k (map label js)) (known-next h j))
