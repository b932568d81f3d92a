-- `word`: each number by its arm.
use Rattle.listing.specs.Lines.{word_of, word_column}
use Rattle.listing.proofs.Words.{word_is, no_word}
use Rattle.listing.proofs.lines.word.Goals as goal

pub returns-in-2 : goal.returns-in-2
unfolding word_of word_column
returns-in-2 c = search word_is

pub returns-in-3 : goal.returns-in-3
unfolding word_of word_column
returns-in-3 c = search word_is

pub returns-in-4 : goal.returns-in-4
unfolding word_of word_column
returns-in-4 c = search word_is

pub returns-in-5 : goal.returns-in-5
unfolding word_of word_column
returns-in-5 c = search word_is

pub returns-in-6 : goal.returns-in-6
unfolding word_of word_column
returns-in-6 c = search word_is

pub returns-in-7 : goal.returns-in-7
unfolding word_of word_column
returns-in-7 c = search word_is

pub returns-in-8 : goal.returns-in-8
unfolding word_of word_column
returns-in-8 c = search word_is

pub returns-in-9 : goal.returns-in-9
unfolding word_of word_column
returns-in-9 c = search word_is

pub returns-in-10 : goal.returns-in-10
unfolding word_of word_column
returns-in-10 c = search word_is

pub returns-in-11 : goal.returns-in-11
unfolding word_of word_column
returns-in-11 c = search word_is

pub returns-in_default : goal.returns-in_default
returns-in_default c = search no_word
