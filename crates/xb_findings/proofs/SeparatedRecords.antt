-- By what a text line is read.
use Rattle.std.proofs.Common.{◌≡◌, ◌∙◌, ℕ, List, true, false, sym, ap}
use Rattle.std.proofs.lemmas.Bool.{cond-true, cond-false}
use Rattle.xb_findings.specs.declared.records.Record.{Record}
use Rattle.xb_findings.specs.declared.separators.Separator.{Separator}
use Rattle.xb_findings.specs.declared.separators.Separator.TheVariants as between
use Rattle.xb_findings.specs.Separators.{is_whole, record_by, record_in, separator_of}

-- a record is that of a text line, read by what stands between its fields
pub record IsSeparated (line : List ℕ) (separator : Separator) (said : Record) : Type 0 where
  pub parted : separator ≡ separator_of line
  pub taken : said ≡ record_in line

module _ (line : List ℕ) where
  read_by : (separator : Separator) (said : Record) → separator_of line ≡ separator → said ≡ record_by separator line
      → IsSeparated line separator said
  unfolding record_in
  read_by separator said e is = record {
    parted = sym e;
    taken = is ∙ sym (ap (λ (s : Separator). record_by s line) e);
  }

  pub by_commas : (commas : Record) → commas ≡ record_by between.Comma line → true ≡ is_whole commas
      → IsSeparated line between.Comma commas
  unfolding separator_of
  by_commas commas is whole =
      read_by between.Comma commas (cond-true _ _ _ (sym (whole ∙ ap is_whole is))) is

  pub by_semicolons : (commas semicolons : Record) → commas ≡ record_by between.Comma line → false ≡ is_whole commas
      → semicolons ≡ record_by between.Semicolon line → true ≡ is_whole semicolons
      → IsSeparated line between.Semicolon semicolons
  unfolding separator_of
  by_semicolons commas semicolons is cut is' whole =
      read_by between.Semicolon semicolons (cond-false _ _ _ (sym (cut ∙ ap is_whole is))
      ∙ cond-true _ _ _ (sym (whole ∙ ap is_whole is'))) is'

  pub by_tabs : (commas semicolons tabs : Record) → commas ≡ record_by between.Comma line → false ≡ is_whole commas
      → semicolons ≡ record_by between.Semicolon line → false ≡ is_whole semicolons
      → tabs ≡ record_by between.Tab line → true ≡ is_whole tabs → IsSeparated line between.Tab tabs
  unfolding separator_of
  by_tabs commas semicolons tabs is cut is' cut' is'' whole =
      read_by between.Tab tabs (cond-false _ _ _ (sym (cut ∙ ap is_whole is))
      ∙ cond-false _ _ _ (sym (cut' ∙ ap is_whole is')) ∙ cond-true _ _ _ (sym (whole ∙ ap is_whole is''))) is''

  pub by_none : (commas semicolons tabs : Record) → commas ≡ record_by between.Comma line → false ≡ is_whole commas
      → semicolons ≡ record_by between.Semicolon line → false ≡ is_whole semicolons
      → tabs ≡ record_by between.Tab line → false ≡ is_whole tabs → IsSeparated line between.Comma commas
  unfolding separator_of
  by_none commas semicolons tabs is cut is' cut' is'' cut'' =
      read_by between.Comma commas (cond-false _ _ _ (sym (cut ∙ ap is_whole is))
      ∙ cond-false _ _ _ (sym (cut' ∙ ap is_whole is')) ∙ cond-false _ _ _ (sym (cut'' ∙ ap is_whole is''))) is
