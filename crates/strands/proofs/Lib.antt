-- Laws on lists; for each file of src/ the facts over variables that its functions' proofs cite (Cases), and what its models mean and
-- keep (Views).
pub mod Lists
pub mod FieldViews
pub mod LiteralCases
pub mod LiteralViews
pub mod FlounderCases
pub mod FlounderViews
pub mod DelayCases
pub mod DelayViews
pub mod MergeCases
pub mod MergeViews
pub mod MakeCases
pub mod MakeViews
pub mod AnswerCases
pub mod AnswerViews
