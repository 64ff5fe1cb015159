-- Which texts a semantic string accepts, and how a call answers a content.
use Rattle.std.specs.Prelude.{ℕ, ◌≡◌, ◌<◌, ◌≤◌, ◌↔◌, List, Bool, false, length, Result, Err, IsOk}
use Rattle.iox_container.specs.StringBytes.{IsStringBytes}
use Rattle.iox_container.specs.declared.semantic_strings.error.SemanticStringError.{SemanticStringError}
use Rattle.iox_container.specs.declared.semantic_strings.error.SemanticStringError.TheVariants.{InvalidContent, ExceedsMaximumLength}

-- A text is accepted if its bytes are in 1..=127 and the rules refuse neither its content nor its characters.
pub record IsAccepted (refuses_content refuses_characters : List ℕ → Bool) (text : List ℕ) : Type 0 where
  pub bytes : IsStringBytes text
  pub content : refuses_content text ≡ false
  pub characters : refuses_characters text ≡ false

-- How a call answers a new content: too long is tested first, then the bytes and the rules.
pub record AnswersContent {A : Type 0} (capacity : ℕ) (refuses_content refuses_characters : List ℕ
    → Bool) (text : List ℕ) (answer : Result A SemanticStringError) : Type 0 where
  pub accepted : IsOk answer ↔ ((length text ≤ capacity) × IsAccepted refuses_content refuses_characters text)
  pub too_long : (answer ≡ Err ExceedsMaximumLength) ↔ (capacity < length text)
  pub invalid : (answer ≡ Err InvalidContent) ↔ ((length text ≤ capacity) × ¬ IsAccepted refuses_content refuses_characters text)
