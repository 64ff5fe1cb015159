-- A line is text that reads as the JSON of its description, so that it is refused only for want of memory.
use Rattle.std.proofs.Common.{◌≡◌, ◌⊎◌, inl, inr, Some, None, Result, Ok, Err, sym, ap, ◌∙◌, subst}
use Rattle.std.specs.Prelude.{IsErrAnd, MatchResult}
use Rattle.std.specs.Str.{IsUtf8}
use Rattle.serde_json.specs.Data.{Data}
use Rattle.serde_json.specs.Read.{read}
use Rattle.serde_json.specs.View.{view}
use Rattle.iox_describe.specs.declared.error.DescriptionError.{DescriptionError}
use Rattle.iox_describe.specs.declared.error.DescriptionError.TheVariants.{Invalid, NotInVersion1, OutOfMemory}
use Rattle.iox_describe.specs.Line.{tree}
use Rattle.iox_describe.proofs.Plain.{line-read, line-utf8}
use Rattle.iox_describe.proofs.reader.value_of.Goals as goal

only_memory : {T M : Type 0} (r : Result T DescriptionError) (P : T → Type 0)
    → IsErrAnd r (λ e. (e ≡ OutOfMemory) ⊎ ((e ≡ Invalid) × (¬ M))) → (¬ M → ⊥)
    → MatchResult r P (λ e. e ≡ OutOfMemory)
only_memory (Ok v) P h never = absurd h
only_memory (Err e) P h never = elim h [ inl memory ↦ memory | inr refused ↦ absurd (never refused.1) ]

some_none : (d : Data) → Some d ≡ None → ⊥
some_none d e = cc

pub returns-in_err-from_slice-clause-read : goal.returns-in_err-from_slice-clause-read
returns-in_err-from_slice-clause-read c =
    λ version a within is.
    only_memory _ _ c.from_residual.ensures.1
    (λ other.
    some_none (tree version a)
    (sym (line-read version a within)
    ∙ ap read (sym is)
    ∙ c.in_err-from_slice.ensures.err other (subst IsUtf8 (sym is) (line-utf8 version a within))))

pub returns-clause-read : goal.returns-clause-read
returns-clause-read c =
    λ version a within is.
    let read_so : Some (view c.in_ok-from_slice.field-0) ≡ Some (tree version a)
    = sym c.in_ok-from_slice.ensures.ok.1 ∙ ap read is ∙ line-read version a within in
    let same : view c.in_ok-from_slice.field-0 ≡ tree version a = cc in same

never_told : {T : Type 0} (M : Type 0) (r : Result T DescriptionError) → IsErrAnd r (λ e. (e ≡ OutOfMemory) ⊎ ((e ≡ Invalid) × (¬ M)))
    → r ≡ Err NotInVersion1 → ⊥
never_told M (Ok v) h is = absurd h
never_told M (Err e) h is = elim h [ inl memory ↦ absurd cc | inr refused ↦ absurd cc ]

pub returns-in_err-from_slice-clause-known : goal.returns-in_err-from_slice-clause-known
returns-in_err-from_slice-clause-known c = never_told _ _ c.from_residual.ensures.1
