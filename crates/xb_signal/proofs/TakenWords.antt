-- Words that are taken, one after the other.
use Rattle.std.proofs.Common.{◌≡◌, ◌∙◌, inl, inr, ℕ, suc, ◌+◌, ◌<◌, Bool, true, false, cond, List, [], ◌∷◌, ◌++◌, length, Result, Ok, Err, IfErr, OnOk, refl, sym, ap, arith, eqb, append_assoc, append-nil}
use Rattle.std.specs.List.{onto_first}
use Rattle.std.proofs.lemmas.List.Splits.{length-slice_split}
use Rattle.xb_sound.specs.declared.cadence.Cadence.{Cadence}
use Rattle.xb_text.specs.Pieces.{pieces}
use Rattle.xb_signal.specs.declared.fault.KeysFault.{KeysFault}
use Rattle.xb_signal.specs.declared.fault.Place.{Place}
use Rattle.xb_signal.specs.declared.segment.Segment.{Segment}
use Rattle.xb_signal.specs.declared.setting.Setting.{Setting}
use Rattle.xb_signal.specs.Texts.{Said, after, and_then, next_place, segments_of_words, words_from}
use Rattle.xb_signal.specs.TextSteps.{IsFaultOfWord, StopsBy, TakesPiece, TakesWord, total}

after-after : (xs ys : List Segment) (said : Said) → after xs (after ys said) ≡ after (xs ++ ys) said
after-after xs ys (Ok later) = ap Ok (sym (append_assoc xs ys later))
after-after xs ys (Err f) = refl

-- no piece is left
pub none-left : (cadence : Cadence) (setting : Setting) (place : Place) (segments : List Segment)
    → after segments (segments_of_words cadence setting (words_from place [])) ≡ Ok segments
unfolding segments_of_words
none-left cadence setting place segments = ap Ok (append-nil segments)

-- a piece that is a word
pub takes-word : (place : Place) (cadence : Cadence) (setting : Setting) (b : ℕ) (bytes : List ℕ)
    (old new : List Segment)
    → TakesWord place cadence setting (b ∷ bytes) old new → TakesPiece place cadence setting (b ∷ bytes) old new
unfolding segments_of_words
takes-word place cadence setting b bytes old new taken later =
    let rest = segments_of_words cadence setting (words_from (next_place place (b ∷ bytes)) later) in
    ap (λ (said : Said). after old (and_then said rest)) taken.1
    ∙ after-after old taken.0 rest
    ∙ ap (λ (segments : List Segment). after segments rest) (sym taken.2)

-- a word that has a fault
pub stops-by : (place : Place) (cadence : Cadence) (setting : Setting) (b : ℕ) (bytes : List ℕ) (f : KeysFault)
    → IsFaultOfWord place cadence setting (b ∷ bytes) f → StopsBy place cadence setting (b ∷ bytes) f
unfolding segments_of_words
stops-by place cadence setting b bytes f (inl memory) = inl memory
stops-by place cadence setting b bytes f (inr is) =
    inr (λ later. ap (λ (said : Said). and_then said
    (segments_of_words cadence setting (words_from (next_place place (b ∷ bytes)) later))) is)

total-onto : (x : ℕ) (parts : List (List ℕ)) → 0 < length parts → total (onto_first x parts) ≡ suc (total parts)
total-onto x [] some = absurd (omega arith)
total-onto x (part ∷ parts) some = omega arith

-- the pieces of a text and the blanks between them have all its bytes
pub total-pieces : (text : List ℕ) → total (pieces 32 text) ≡ length text + 1
total-pieces [] = refl
total-pieces (b ∷ text) = by (eqb b 32) (total-pieces text)
  where
    rest : List (List ℕ)
    rest = pieces 32 text

    by : (cut : Bool) → total rest ≡ length text + 1
        → total (cond cut ([] ∷ rest) (onto_first b rest)) ≡ suc (length text) + 1
    by true is = omega (arith, is)
    by false is =
        let onto = total-onto b rest (omega (arith, length-slice_split (λ c. eqb c 32) text)) in omega (arith, onto, is)

-- a piece with bytes
pub takes-piece : (place : Place) (cadence : Cadence) (setting : Setting) (piece : List ℕ)
    (old new : List Segment) → 0 < length piece
    → TakesWord place cadence setting piece old new → TakesPiece place cadence setting piece old new
takes-piece place cadence setting [] old new some taken = absurd (omega arith)
takes-piece place cadence setting (b ∷ bytes) old new some taken =
    takes-word place cadence setting b bytes old new taken

pub stops-by-piece : (place : Place) (cadence : Cadence) (setting : Setting) (piece : List ℕ)
    (f : KeysFault) → 0 < length piece
    → IsFaultOfWord place cadence setting piece f → StopsBy place cadence setting piece f
stops-by-piece place cadence setting [] f some is = absurd (omega arith)
stops-by-piece place cadence setting (b ∷ bytes) f some is = stops-by place cadence setting b bytes f is

pub if-ok : {T E : Type 0} {P Q : Type 0} (result : Result T E) → (P → Q) → OnOk result P → OnOk result Q
if-ok (Ok t) then is = then is
if-ok (Err e) then is = tt

pub if-err : {T E : Type 0} {P Q : E → Type 0} (result : Result T E) → ((e : E) → P e → Q e)
    → IfErr result P → IfErr result Q
if-err (Ok t) then is = tt
if-err (Err e) then is = then e is
