-- The lines of what is doubtful of a keying, and of a key that stands in none.
use Rattle.std.specs.Prelude.{ℕ, ◌-◌, List, [], ◌∷◌, ◌++◌, codes, decimal, if◌then◌else◌, length, nat_le}
use Rattle.xb_measured.specs.declared.heard.Heard.{Heard}
use Rattle.xb_measured.specs.Figures.{start_ms}
use Rattle.xb_measured.specs.Meanings.{meaning_of, name_text}
use Rattle.xb_measured.specs.Seconds.{seconds_text}
use Rattle.xb_measured.specs.declared.doubts.Doubt.{Doubt}
use Rattle.xb_measured.specs.declared.doubts.DoubtKind.{DoubtKind}
use Rattle.xb_measured.specs.declared.doubts.DoubtKind.TheVariants as kinds
use Rattle.xb_measured.specs.declared.doubts.Effect.{Effect}
use Rattle.xb_measured.specs.declared.doubts.Effect.TheVariants as effects
use Rattle.xb_measured.specs.Doubts.{doubts_of}

-- what is doubtful, in words
abbrev pub gap_reason : ℕ → ℕ → ℕ → List ℕ
gap_reason key ms usual =
    decimal ms ++ (codes " ms between its keys " ++ (decimal (key - 1) ++ (codes " and " ++ (decimal key
    ++ (codes ", where " ++ (decimal usual ++ codes " are usual"))))))

abbrev pub length_reason : ℕ → ℕ → ℕ → List ℕ
length_reason key ms usual =
    codes "its key " ++ (decimal key ++ (codes " lasts " ++ (decimal ms ++ (codes " ms, where " ++ (decimal usual
    ++ codes " are usual")))))

abbrev pub reason_with : DoubtKind → ℕ → ℕ → ℕ → List ℕ
reason_with kinds.LongGap key ms usual = gap_reason key ms usual
reason_with kinds.ShortGap key ms usual = gap_reason key ms usual
reason_with kinds.LongKey key ms usual = length_reason key ms usual
reason_with kinds.ShortKey key ms usual = length_reason key ms usual

abbrev pub reason_text : Doubt → List ℕ
reason_text d = reason_with d.kind d.key d.ms d.usual

-- and what may be wrong
abbrev pub effect_text : Effect → List ℕ
effect_text effects.Missing = codes "one may be missing"
effect_text effects.Extra = codes "one may be too many"
effect_text effects.Cut = codes "it may be cut"

-- of how many doubts it is the first
abbrev pub count_text : ℕ → List ℕ
count_text count = if nat_le count 1 then [] else codes "; the first of " ++ (decimal count ++ codes " doubts")

-- the line of the first of so many doubts of an entry of this number, which begins then
abbrev pub doubt_line : ℕ → ℕ → ℕ → Doubt → List ℕ
doubt_line entry at count d =
    codes "mfrx: entry " ++ (decimal entry ++ (codes " at " ++ (seconds_text at ++ (codes " s: " ++ (reason_text d
    ++ (codes ": " ++ (effect_text d.effect ++ (count_text count ++ codes "\n"))))))))

-- an entry has one line, where something is doubtful of it
abbrev pub doubt_lines : ℕ → ℕ → List Doubt → List ℕ
doubt_lines entry at [] = []
doubt_lines entry at (d ∷ ds) = doubt_line entry at (length (d ∷ ds)) d

-- a keying begins with its first key
abbrev pub began_ms : List Heard → ℕ
began_ms [] = 0
began_ms (key ∷ keys) = start_ms key

-- what is told of the doubts of the entry of this number
abbrev pub doubts_text : ℕ → List Heard → List ℕ
doubts_text entry keys = doubt_lines entry (began_ms keys) (doubts_of keys)

-- a key that stands in no keying
abbrev pub loose_line : Heard → List ℕ
loose_line key =
    codes "mfrx: " ++ (name_text (meaning_of key.sight.pair) ++ (codes " at " ++ (decimal (start_ms key)
    ++ codes " ms belongs to no keying\n")))
