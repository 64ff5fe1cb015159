use Rattle.std.proofs.Common.{◌≡◌, ◌<◌, ℕ, List, Some}
use Rattle.csv.specs.Reading.{Reached, Ready, default_config, source_of, strip_bom}
use Rattle.csv.specs.declared.parser.State.TheVariants as st
use Rattle.csv.specs.declared.reader.Trim.TheVariants as trim
use Rattle.example_tracer.specs.Replay.{script_of}
use Rattle.example_tracer.proofs.ReplayLemmas.{none_yet}
use Rattle.example_tracer.proofs.replay.replay.Given as goal

-- some rows were read, the rest of the text is left, and the script is that of these rows
abbrev pub invariant-loop-row : goal.invariant-loop-row
invariant-loop-row l = record {
  untrimmed : l.row-iterator.rdr.trim ≡ trim.None;
  ready : Ready l.row-iterator.rdr;
  turns : 0 < l.row-iterator.left;
  config : l.row-iterator.rdr.config ≡ default_config;
  rest : List ℕ;
  rest_is : source_of (λ s. Some s.now) l.row-iterator.rdr ≡ Some rest;
  rows : List (List (List ℕ));
  reached : Reached default_config st.StartRecord (strip_bom l.fn.text) rows l.row-iterator.rdr.state rest;
  header : l.is_header ≡ none_yet rows;
  script : l.script.items ≡ script_of rows;
}
