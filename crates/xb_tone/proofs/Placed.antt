-- Entries whose cuts are not told.
use Rattle.std.proofs.Common.{◌≡◌, ℕ, ◌<◌, List, length, Option, Some, None, Err, sym, subst, inl, inr, refl}
use Rattle.std.specs.Prelude.{IfSome}
use Rattle.std.proofs.KnownBytes.{Keeps-refl}
use Rattle.xb_tone.specs.declared.entry.PlacedEntry.{PlacedEntry}
use Rattle.xb_tone.specs.Cuts.{lines_of_cuts}
use Rattle.xb_tone.specs.Sounds.{bytes_of}
use Rattle.xb_tone.specs.Times.{AreInOrder}
use Rattle.xb_text.specs.Writing.{AppendsBeginning}
use Rattle.xb_tone.specs.declared.fault.ToneFault.{ToneFault}
use Rattle.xb_tone.specs.declared.request.Request.{Request}
use Rattle.xb_tone.specs.Placing.{DeliversAt, Places, SoundsAt, TellsCuts, program}

sounds : (request : Request) (text : List ℕ) (entries : List PlacedEntry) → Places request.choice text entries
    → 0 < length entries → AreInOrder entries
    → SoundsAt request text (bytes_of request.raw request.cadence entries) (lines_of_cuts program request.cadence entries)
sounds request text entries placed some order =
    record { entries = entries; placed = placed; some = some; order = order; are_bytes = refl; are_told = refl }

begun : (request : Request) (input : Option (List ℕ)) (text : List ℕ) (entries : List PlacedEntry)
    (errors told : Option (List ℕ)) → IfSome input (λ bytes. text ≡ bytes) → Places request.choice text entries
    → 0 < length entries → AreInOrder entries
    → AppendsBeginning errors told (lines_of_cuts program request.cadence entries)
    → IfSome input (λ text. (bytes : List ℕ) × (lines : List ℕ) × SoundsAt request text bytes lines
    × AppendsBeginning errors told lines)
begun request None text entries errors told is placed some order part = tt
begun request (Some bytes) text entries errors told is placed some order part = (
  bytes_of request.raw request.cadence entries,
  lines_of_cuts program request.cadence entries,
  sounds request bytes entries (subst (λ (text : List ℕ). Places request.choice text entries) is placed) some order,
  part,
)

pub untold : (request : Request) (input : Option (List ℕ)) (text : List ℕ) (entries : List PlacedEntry) (f : ToneFault)
    (old errors told : Option (List ℕ)) → IfSome input (λ bytes. text ≡ bytes) → Places request.choice text entries
    → 0 < length entries → AreInOrder entries
    → TellsCuts (lines_of_cuts program request.cadence entries) (Err f) errors told
    → DeliversAt request input (Err f) old old errors told
untold request input text entries f old errors told is placed some order (inl memory) =
    subst (λ (f : ToneFault). DeliversAt request input (Err f) old old errors told) (sym memory.0)
    (Keeps-refl old, memory.1)
untold request input text entries f old errors told is placed some order (inr part) =
    subst (λ (f : ToneFault). DeliversAt request input (Err f) old old errors told) (sym part.0)
    (Keeps-refl old, begun request input text entries errors told is placed some order part.1)
