-- What is fixed in a run of a text.
use Rattle.syntax.specs.Known.{State}
use Rattle.trial.specs.declared.Setting.{Setting}

abbrev pub setting_of : State → Setting
setting_of s = record { processors = s.processors; grouping = s.grouping; iterations = s.count; from = s.from }
