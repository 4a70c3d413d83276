-- Where a recording stops at once, and what was written then.
use Rattle.std.proofs.Common.{◌≡◌, ◌≢◌, ℕ, List, [], ◌++◌, Option, refl, sym, subst, inl, inr}
use Rattle.std.specs.Io.KnownBytes.{Appends}
use Rattle.std.proofs.KnownBytes.{Appends-nil, Appends-trans}
use Rattle.xb_text.proofs.Beginnings.{AppendsBeginning-second}
use Rattle.xb_contact.specs.declared.event.Refusal.{Refusal}
use Rattle.xb_recording.specs.declared.reader.Reader.{Reader}
use Rattle.xb_feed.specs.declared.fault.RecordingFault.{RecordingFault}
use Rattle.xb_feed.specs.declared.fault.RecordingFault.TheVariants as faults
use Rattle.xb_feed.specs.declared.reading.Unread.{Unread}
use Rattle.xb_feed.specs.Faults.{IsFaultAtEnd, IsFaultOf}
use Rattle.xb_feed.specs.Feeding.{IsFaultOfRest, IsWithin, SaysFirst, Stops, Wrote}
use Rattle.xb_feed.specs.Followers.{Follower}
use Rattle.xb_feed.specs.Watching.{Watch}
use Rattle.xb_feed.proofs.Fed.{follows_none}

-- a refusal within bytes
pub why_within :
    {C G : Type 0} (kind : Follower C G)
    (reader : Reader) (watch : Watch C G) (later : List ℕ) (fault : RecordingFault) (text : List ℕ) → fault ≢ faults.NoMemory
    → IsWithin kind reader watch later fault text → IsFaultOfRest kind reader watch later fault text
why_within kind reader watch later (faults.Line number reason shown) text ne w = inl w
why_within kind reader watch later (faults.Sample number reason) text ne w = inl w
why_within kind reader watch later (faults.Beginning reason) text ne w = inl w
why_within kind reader watch later (faults.End reason) text ne w = absurd w.why.told
why_within kind reader watch later (faults.NoLevel line) text ne w = absurd w.why.told
why_within kind reader watch later faults.Write text ne w = absurd w.why.told
why_within kind reader watch later (faults.Read unread) text ne w = absurd w.why.told
why_within kind reader watch later faults.NoMemory text ne w = absurd (ne refl)

-- one at the end
pub why_at_end :
    {C G : Type 0} (kind : Follower C G)
    (reader : Reader) (watch : Watch C G) (fault : RecordingFault) → IsFaultAtEnd kind reader watch fault
    → IsFaultOfRest kind reader watch [] fault []
why_at_end kind reader watch (faults.Line number reason shown) e = inr (refl, refl, e)
why_at_end kind reader watch (faults.Sample number reason) e = inr (refl, refl, e)
why_at_end kind reader watch (faults.Beginning reason) e = inr (refl, refl, e)
why_at_end kind reader watch (faults.End reason) e = absurd e.told
why_at_end kind reader watch (faults.NoLevel line) e = absurd e.told
why_at_end kind reader watch faults.Write e = absurd e.told
why_at_end kind reader watch (faults.Read unread) e = absurd e.told
why_at_end kind reader watch faults.NoMemory e = refl

-- what was written
pub wrote_then :
    (fault : RecordingFault) (a b c : Option (List ℕ)) (first second : List ℕ) → Appends a b first
    → Wrote fault b c second → Wrote fault a c (first ++ second)
wrote_then (faults.Line number reason shown) a b c first second p q = Appends-trans a b c first second p q
wrote_then (faults.Sample number reason) a b c first second p q = Appends-trans a b c first second p q
wrote_then (faults.Beginning reason) a b c first second p q = Appends-trans a b c first second p q
wrote_then (faults.End reason) a b c first second p q = Appends-trans a b c first second p q
wrote_then (faults.NoLevel line) a b c first second p q = Appends-trans a b c first second p q
wrote_then (faults.Read unread) a b c first second p q = Appends-trans a b c first second p q
wrote_then faults.NoMemory a b c first second p q = Appends-trans a b c first second p q
wrote_then faults.Write a b c first second p q = AppendsBeginning-second a b c first second p q

pub wrote_all :
    (fault : RecordingFault) (reader : Reader) (refusal : Refusal) (a b : Option (List ℕ)) (text : List ℕ)
    → IsFaultOf reader refusal fault → Appends a b text → Wrote fault a b text
wrote_all (faults.Line number reason shown) reader refusal a b text told p = p
wrote_all (faults.Sample number reason) reader refusal a b text told p = p
wrote_all (faults.Beginning reason) reader refusal a b text told p = p
wrote_all (faults.End reason) reader refusal a b text told p = p
wrote_all (faults.NoLevel line) reader refusal a b text told p = p
wrote_all (faults.Read unread) reader refusal a b text told p = p
wrote_all faults.NoMemory reader refusal a b text told p = p
wrote_all faults.Write reader refusal a b text told p = absurd told

pub wrote_nothing : (fault : RecordingFault) (a : Option (List ℕ)) → Wrote fault a a []
wrote_nothing (faults.Line number reason shown) a = Appends-nil a
wrote_nothing (faults.Sample number reason) a = Appends-nil a
wrote_nothing (faults.Beginning reason) a = Appends-nil a
wrote_nothing (faults.End reason) a = Appends-nil a
wrote_nothing (faults.NoLevel line) a = Appends-nil a
wrote_nothing (faults.Read unread) a = Appends-nil a
wrote_nothing faults.NoMemory a = Appends-nil a
wrote_nothing faults.Write a = (0, Appends-nil a)

-- a fault at once
pub stops_at_once :
    {C G : Type 0} (kind : Follower C G)
    (reader : Reader) (watch : Watch C G) (bytes text : List ℕ) (fault : RecordingFault) (a b : Option (List ℕ))
    → IsFaultOfRest kind reader watch bytes fault text → Wrote fault a b text → Stops kind reader watch bytes fault a b
stops_at_once kind reader watch bytes text fault a b why wrote = record {
  taken = [];
  later = bytes;
  are = refl;
  there = reader;
  said = [];
  follows = follows_none reader;
  text = text;
  why = why;
  wrote = wrote;
}

pub stops_no_memory :
    {C G : Type 0} (kind : Follower C G)
    (reader : Reader) (watch : Watch C G) (bytes : List ℕ) (fault : RecordingFault) (a b : Option (List ℕ))
    → fault ≡ faults.NoMemory → Appends a b [] → Stops kind reader watch bytes fault a b
stops_no_memory kind reader watch bytes fault a b is kept =
    let P : RecordingFault → Type 0 = λ f. Stops kind reader watch bytes f a b in
    subst P (sym is) (stops_at_once kind reader watch bytes [] faults.NoMemory a b refl kept)

pub stops_read :
    {C G : Type 0} (kind : Follower C G)
    (reader : Reader) (watch : Watch C G) (bytes : List ℕ) (unread : Unread) (a : Option (List ℕ))
    → Stops kind reader watch bytes (faults.Read unread) a a
stops_read kind reader watch bytes unread a =
    stops_at_once kind reader watch bytes [] (faults.Read unread) a a refl (Appends-nil a)

-- nothing is said of nothing
pub says_nothing : (reader : Reader) (later : List ℕ) → SaysFirst reader later []
says_nothing reader later =
    record { bytes = []; rest = later; are = refl; after = reader; more = []; takes = λ text events k. k }
