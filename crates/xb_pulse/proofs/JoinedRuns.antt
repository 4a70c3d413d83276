-- What a run takes in of the runs after it.
use Rattle.std.proofs.Common.{◌≡◌, ℕ, ◌+◌, List, [], ◌∷◌, Bool, true, false, cond, refl, add-zero}
use Rattle.xb_model.specs.declared.row.Contact.{Contact}
use Rattle.xb_model.specs.declared.row.Contact.TheVariants.{Make, Brk, Close}
use Rattle.xb_model.specs.Records.{Run, run_of, same_contact, join, without_first_break}

-- how many ms a run of this contact takes in of the runs after it: the first, if it has the contact
abbrev pub ms_taken_in : Contact → List Run → ℕ
ms_taken_in c [] = 0
ms_taken_in c (run ∷ R) = cond (same_contact c run.contact) run.ms 0

-- the runs that such a run leaves
abbrev pub runs_left : Contact → List Run → List Run
runs_left c [] = []
runs_left c (run ∷ R) = cond (same_contact c run.contact) R (run ∷ R)

-- one case for each result of the test on contacts
join_by :
    (c : Contact) (m : ℕ) (q : Run) (R : List Run) (b : Bool)
    → cond b (run_of c (m + q.ms) ∷ R) (run_of c m ∷ q ∷ R) ≡ run_of c (m + cond b q.ms 0) ∷ cond b R (q ∷ R)
join_by c m q R true = refl
join_by c m q R false = rw add-zero

-- a run before others is longer by what it takes in, and the runs that it leaves come after it
pub join_is :
    (c : Contact) (m : ℕ) (R : List Run)
    → join (run_of c m) R ≡ run_of c (m + ms_taken_in c R) ∷ runs_left c R
join_is c m [] = rw add-zero
join_is c m (q ∷ R) = join_by c m q R (same_contact c q.contact)

-- the test for a break is the same from either side
same_break : (c : Contact) → same_contact c Brk ≡ same_contact Brk c
same_break Make = refl
same_break Brk = refl
same_break Close = refl

-- runs without a first break are those that a break before them leaves
pub without_first_break_is : (R : List Run) → without_first_break R ≡ runs_left Brk R
without_first_break_is [] = refl
without_first_break_is (q ∷ R) = rw (same_break q.contact)
