-- `more`: by what the byte ended.
use Rattle.xsb_import.proofs.Growing.{head_kept, positive_kept, negative_kept}
use Rattle.xsb_import.proofs.keeping.more.Goals as goal

pub returns-in-Head : goal.returns-in-Head
returns-in-Head c = head_kept _ _ _ _ _ _ c.in-Head.is c.begin.ensures

pub returns-in-Positive : goal.returns-in-Positive
returns-in-Positive c = positive_kept _ _ _ _ _ _ _ c.in-Positive.is c.named-goal.ensures c.add.ensures

pub returns-in-Negative : goal.returns-in-Negative
returns-in-Negative c =
    negative_kept _ _ _ _ _ _ _ c.in-Negative.is c.named-goal-in-Negative.ensures c.add-in-Negative.ensures
