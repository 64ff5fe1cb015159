-- A table of all shared words, and one access to one of them.
use Rattle.std.specs.Prelude.{ℕ, List, set, slice_index, if◌then◌else◌, ◌==◌}
use Rattle.iox_lanes_base.specs.Numbers.{number_of, IsWord}
use Rattle.iox_lanes_base.specs.declared.words.word.SharedWord.{SharedWord}
use Rattle.iox_lanes_base.specs.declared.words.sizes.TableSizes.{TableSizes}
use Rattle.iox_lanes_base.specs.declared.words.access.SharedAccess.{SharedAccess}
use Rattle.iox_lanes_base.specs.declared.words.access.SharedAccess.TheVariants.{Load, Store, Exchange, Local}

-- All words of a service, by number.
pub record TableWords : Type 0 where
  pub sizes : TableSizes
  pub words : List ℕ

-- The value of a word.
abbrev pub held_by : TableWords → SharedWord → ℕ
held_by table word = slice_index table.words (number_of table.sizes word)

-- The table after a store.
abbrev pub stored_in : TableWords → SharedWord → ℕ → TableWords
stored_in table word value = record table { words = set table.words (number_of table.sizes word) value }

-- The answer of an access.
abbrev pub shared_answer : TableWords → SharedAccess → ℕ
shared_answer table (Load word) = held_by table word
shared_answer table (Store word value) = 0
shared_answer table (Exchange word old new) = held_by table word
shared_answer table Local = 0

-- The table after an access.
abbrev pub after_shared : TableWords → SharedAccess → TableWords
after_shared table (Load word) = table
after_shared table (Store word value) = stored_in table word value
after_shared table (Exchange word old new) = if held_by table word == old then stored_in table word new else table
after_shared table Local = table

-- The access is one to a word of the service, or a local step.
abbrev pub IsOfTable : TableSizes → SharedAccess → Type 0
IsOfTable sizes (Load word) = IsWord sizes word
IsOfTable sizes (Store word value) = IsWord sizes word
IsOfTable sizes (Exchange word old new) = IsWord sizes word
IsOfTable sizes Local = Unit {0}
