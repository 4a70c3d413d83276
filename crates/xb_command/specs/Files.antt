-- The bytes of files.
use Rattle.std.specs.Prelude.{ℕ, ◌≡◌, ◌||◌, ◌&&◌, Bool, if◌then◌else◌, nat_eq, codes, List, [], ◌∷◌, Option, Some, None, IfSome, drop, take}
use Rattle.std.specs.List.{starts_with}
use Rattle.xb_command.specs.declared.opening.NoText.{NoText}
use Rattle.xb_command.specs.declared.opening.NoText.TheVariants.{Sound, Utf16}
use Rattle.xb_command.specs.declared.opening.OpenFault.{OpenFault}
use Rattle.xb_command.specs.declared.opening.OpenFault.TheVariants as fault

-- what files have, by their names, where it is known
abbrev pub Bytes : Type 0
Bytes = List ℕ → Option (List ℕ)

-- the file of this name has these bytes, if its bytes are known
abbrev pub HasBytes : Bytes → List ℕ → List ℕ → Type 0
HasBytes bytes name text = IfSome (bytes name) (λ known. text ≡ known)

-- what is left to read is the bytes of the file of this name, if its bytes are known
abbrev pub ReadsBytes : Bytes → List ℕ → Option (List ℕ) → Type 0
ReadsBytes bytes name left = IfSome (bytes name) (λ known. left ≡ Some known)

-- text in UTF-16, by its byte order mark
abbrev pub is_utf16 : List ℕ → Bool
is_utf16 first =
    starts_with nat_eq first (255 ∷ 254 ∷ []) || starts_with nat_eq first (254 ∷ 255 ∷ [])

-- sound, by the beginning of a WAV file: RIFF, four bytes, WAVE
abbrev pub is_wav : List ℕ → Bool
is_wav first = starts_with nat_eq first (codes "RIFF") && starts_with nat_eq (drop 8 first) (codes "WAVE")

-- what a text with these first bytes is, if it is none in UTF-8
abbrev pub no_text : List ℕ → Option NoText
no_text first = if is_utf16 first then Some Utf16 else (if is_wav first then Some Sound else None)

-- the file of this name is read from its beginning, and is not seen to be no text, if its bytes are known
abbrev pub OpensText : Bytes → List ℕ → Option (List ℕ) → Type 0
OpensText bytes name left = IfSome (bytes name) (λ known. (left ≡ Some known) × (no_text (take 12 known) ≡ None))

-- the file of this name is not opened, and the fault names it, with the reason of the system
abbrev pub IsUnreadable : List ℕ → OpenFault → Type 0
IsUnreadable name (fault.NoText named what) = ⊥
IsUnreadable name (fault.System named error) = named.now ≡ name

-- the same; or its first bytes show that it is no text, if they are known
abbrev pub IsNoText : Bytes → List ℕ → OpenFault → Type 0
IsNoText bytes name (fault.NoText named what) =
    (named.now ≡ name) × IfSome (bytes name) (λ known. no_text (take 12 known) ≡ Some what)
IsNoText bytes name (fault.System named error) = named.now ≡ name
