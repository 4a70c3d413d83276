-- Which wire a VCD is told to lack.
use Rattle.std.specs.Prelude.{◌≡◌, ℕ, ◌≤◌, List, ◌∷◌, ◌++◌, Bool, true, false, Err, bytes_eq, length}
use Rattle.std.specs.List.{list_all, list_any}
use Rattle.xb_contact.specs.declared.event.Refusal.TheVariants as refusals
use Rattle.xb_contact.specs.Changes.{AreNames, Change}
use Rattle.xb_vcd.specs.VcdTexts.{begun_vcd, vcd_says}
use Rattle.xb_vcd.specs.WrittenVcd.{vcd_lines}

-- a name is declared
abbrev pub is_declared : List (List ℕ) → List ℕ → Bool
is_declared names name = list_any (bytes_eq name) names

-- of the wires that are asked for the first one is told that the VCD does not declare, whatever follows its header
abbrev pub FirstMissingIsTold : Type 0
FirstMissingIsTold =
    (names : List (List ℕ)) (changes : List Change) (end : ℕ) (before after : List (List ℕ)) (name : List ℕ)
    → AreNames names → length names ≤ 94 → list_all (is_declared names) before ≡ true → is_declared names name ≡ false
    → vcd_says (begun_vcd (before ++ name ∷ after)) (vcd_lines names changes end) ≡ Err (refusals.NoWire (length before))
