-- What was read of a line, as contracts see it.
use Rattle.command_line.specs.CommandLine.{spelled}
use Rattle.wish_words.specs.declared.reading.WishedWords.{WishedWords}
use Rattle.wish_words.specs.WishWords.{Wished}

abbrev pub wished_value : WishedWords → Wished
wished_value found = record { wishes = found.wishes; aiger = found.aiger; words = spelled found.words }
