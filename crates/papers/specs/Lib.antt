-- What is right of papers, over the definitions of the solver: the listing and its pages, plain and levelled books and the layered least
-- model, levels, XSB text, mending, what can be derived; what is claimed of all calls (`Claim`, `Certified`); and cases by computation.
pub mod Listing
pub mod Cases
pub mod MoreCases
pub mod RangeCases
pub mod DeskCases
pub mod PageCases
pub mod Model
pub mod Pages
pub mod Levels
pub mod NotPlain
pub mod LevelCases
pub mod Xsb
pub mod XsbForm
pub mod XsbCases
pub mod Mend
pub mod MendCases
pub mod Derive
pub mod Spoilt
pub mod Claim
pub mod Certified
pub mod Instances
