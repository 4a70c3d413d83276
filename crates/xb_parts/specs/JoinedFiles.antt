-- What is written of the files of pages.
use Rattle.std.specs.Prelude.{ℕ, ◌≡◌, ◌≤◌, ◌<◌, ◌-◌, ◌==◌, ◌⊎◌, if◌then◌else◌, List, length, slice_get, Option, Some, None, IfSome, IsSomeAnd, Result, Ok, Err}
use Rattle.std.specs.List.{Contains}
use Rattle.std.specs.Io.KnownBytes.{Appends, Keeps}
use Rattle.xb_parts.specs.Joining.{IsFaultOf, MakesTheWhole, join_of}
use Rattle.xb_parts.specs.declared.parts_fault.PartsFault.{PartsFault}
use Rattle.xb_parts.specs.declared.parts_fault.PartsFault.TheVariants as parts_fault
use Rattle.xb_parts.specs.declared.list.ListFault.{ListFault}
use Rattle.xb_parts.specs.Lists.{IsListFault, ranges_of_list}
use Rattle.xb_parts.specs.declared.range.LineRange.{LineRange}
use Rattle.xb_text.specs.Writing.{AppendsBeginning}
use Rattle.xb_command.specs.Files.{Bytes, HasBytes}
use Rattle.xb_parts.specs.Files.{HavePages}
use Rattle.xb_parts.specs.Given.{given_by}
use Rattle.xb_parts.specs.JoinOptions.{list_of, pages_of}
use Rattle.xb_parts.specs.declared.join_fault.JoinFault.{JoinFault}
use Rattle.xb_parts.specs.declared.join_fault.JoinFault.TheVariants as fault
use Rattle.xb_parts.specs.declared.join_words.JoinRequest.{JoinRequest}

-- the ranges that the file of a list names, if there is a list
abbrev pub IsListed : Bytes → Option (List ℕ) → Option (List LineRange) → Type 0
IsListed bytes None ranges = ranges ≡ None
IsListed bytes (Some name) None = ⊥
IsListed bytes (Some name) (Some ranges) =
    (text : List ℕ) × HasBytes bytes name text × (ranges_of_list text ≡ Some ranges)

-- what was read of the files that a request names
pub record Reads (bytes : Bytes) (request : JoinRequest) (ranges : Option (List LineRange)) (pages : List (List ℕ))
    : Type 0 where
  pub listed : IsListed bytes (list_of request) ranges
  pub texts : HavePages bytes (pages_of request) pages

-- a list, if there is one, has a part for each page
abbrev pub HasPartForEach : Option (List LineRange) → List (List ℕ) → Type 0
HasPartForEach ranges pages = IfSome ranges (λ rs. length pages ≤ length rs)

-- the files make this page: it is that of the lines that their pages are given, and that of the whole
-- where they are the pages of parts; a list has a part for each page
pub record Join (bytes : Bytes) (request : JoinRequest) (page : List ℕ) : Type 0 where
  pub ranges : Option (List LineRange)
  pub pages : List (List ℕ)
  pub reads : Reads bytes request ranges pages
  pub few : HasPartForEach ranges pages
  pub joined : join_of (given_by ranges pages) ≡ Ok page
  pub whole : MakesTheWhole (given_by ranges pages) page

-- the pages of the files, of which a list has a part for each, have a fault
pub record Blame (bytes : Bytes) (request : JoinRequest) (f : PartsFault) : Type 0 where
  pub ranges : Option (List LineRange)
  pub pages : List (List ℕ)
  pub reads : Reads bytes request ranges pages
  pub few : HasPartForEach ranges pages
  pub joined : IsFaultOf (join_of (given_by ranges pages)) f

-- there are more pages than this many parts of the list
pub record HasTooMany (bytes : Bytes) (request : JoinRequest) (parts : ℕ) : Type 0 where
  pub ranges : Option (List LineRange)
  pub pages : List (List ℕ)
  pub reads : Reads bytes request ranges pages
  pub more : parts < length pages
  pub count : IsSomeAnd ranges (λ rs. length rs ≡ parts)

-- the file of the page of a part, from 1
abbrev pub page_at : List (List ℕ) → ℕ → Option (List ℕ)
page_at names part = if part == 0 then None else slice_get names (part - 1)

-- the file of the part that a fault names, if it names one
abbrev pub file_of : List (List ℕ) → PartsFault → Option (List ℕ)
file_of names (parts_fault.Lines part) = page_at names part
file_of names (parts_fault.Part part damage) = page_at names part
file_of names (parts_fault.PastEnd part) = page_at names part
file_of names (parts_fault.Missing line) = None
file_of names parts_fault.NoMemory = None

-- the text of this file is no list, or memory ran out
abbrev pub IsNoList : Bytes → List ℕ → ListFault → Type 0
IsNoList bytes name f = (text : List ℕ) × HasBytes bytes name text × IsListFault text f

-- the file of a list is not read, or is none
abbrev pub IsFaultOfList : Bytes → Option (List ℕ) → JoinFault → Type 0
IsFaultOfList bytes list (fault.File name error) = list ≡ Some name.now
IsFaultOfList bytes list (fault.List name f) = (list ≡ Some name.now) × IsNoList bytes name.now f
IsFaultOfList bytes list f = ⊥

-- one of the files is not read, or memory ran out
abbrev pub IsFaultOfFiles : List (List ℕ) → JoinFault → Type 0
IsFaultOfFiles names (fault.File name error) = Contains names name.now
IsFaultOfFiles names fault.NoMemory = Unit {0}
IsFaultOfFiles names f = ⊥

-- a fault of pages, which is told with the file of its part
abbrev pub IsNamedFault : List (List ℕ) → PartsFault → JoinFault → Type 0
IsNamedFault names f (fault.Page name told) = (told ≡ f) × (file_of names f ≡ Some name.now)
IsNamedFault names f (fault.Parts told) = (told ≡ f) × (file_of names f ≡ None)
IsNamedFault names f told = ⊥

-- why pages are not joined: there are more than parts of the list, or they have this fault, or memory ran out
abbrev pub IsFaultOfPages : List (List ℕ) → Option (List LineRange) → List (List ℕ) → JoinFault → Type 0
IsFaultOfPages names ranges pages (fault.TooMany parts) =
    (parts < length pages) × IsSomeAnd ranges (λ rs. length rs ≡ parts)
IsFaultOfPages names ranges pages (fault.Page name f) = HasPartForEach ranges pages
    × IsFaultOf (join_of (given_by ranges pages)) f × (file_of names f ≡ Some name.now)
IsFaultOfPages names ranges pages (fault.Parts f) = HasPartForEach ranges pages
    × IsFaultOf (join_of (given_by ranges pages)) f × (file_of names f ≡ None)
IsFaultOfPages names ranges pages fault.NoMemory = Unit {0}
IsFaultOfPages names ranges pages f = ⊥

-- a file of a request that may be found unread: that of the list, or that of a page where the list is good, or
-- there is none
abbrev pub IsUnread : Bytes → JoinRequest → List ℕ → Type 0
IsUnread bytes request name = (list_of request ≡ Some name) ⊎ (Contains (pages_of request) name
    × ((ranges : Option (List LineRange)) × IsListed bytes (list_of request) ranges))

-- what is returned for the files of a request, and what the writer got: the page on Ok, its beginning where a
-- write failed, and nothing on any other fault. A fault of a page's file is told only where the list is good, or
-- there is none; that there are too many pages, and what is wrong with them, only where all files were read; and
-- that one of them is wrong only where there are not too many
abbrev pub Delivers :
    Bytes → JoinRequest → Result (Unit {0}) JoinFault → Option (List ℕ) → Option (List ℕ) → Type 0
Delivers bytes request (Ok u) old new = (page : List ℕ) × Join bytes request page × Appends old new page
Delivers bytes request (Err fault.Write) old new =
    (page : List ℕ) × Join bytes request page × AppendsBeginning old new page
Delivers bytes request (Err (fault.File name error)) old new = Keeps old new × IsUnread bytes request name.now
Delivers bytes request (Err (fault.List name f)) old new =
    Keeps old new × (list_of request ≡ Some name.now) × IsNoList bytes name.now f
Delivers bytes request (Err (fault.Page name f)) old new =
    Keeps old new × Blame bytes request f × (file_of (pages_of request) f ≡ Some name.now)
Delivers bytes request (Err (fault.Parts f)) old new =
    Keeps old new × Blame bytes request f × (file_of (pages_of request) f ≡ None)
Delivers bytes request (Err (fault.TooMany parts)) old new = Keeps old new × HasTooMany bytes request parts
Delivers bytes request (Err f) old new = Keeps old new
