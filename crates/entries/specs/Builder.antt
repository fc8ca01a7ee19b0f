-- What a builder has made.
use Rattle.entries.specs.declared.Builder.{Builder}
use Rattle.entries.specs.Postfix.{Made, made}

-- its draft beside the numbers of its table and its stack
abbrev pub made_of : Builder → Made
made_of b = made b.draft b.table b.operands
