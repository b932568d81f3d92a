-- What the levelled profile says beforehand: a paper that the check accepts is within demand 3, with the levels that it gives; and the
-- model is one, whichever levels are taken.
use Prim.Native.Nat.{ℕ}
use mathlib.Core.Path.{◌≡◌, ap, subst}
use mathlib.Core.Bool.{◌||◌}
use mathlib.Core.List.{[], ◌∷◌}
use lib.Dec.{leb, eqb}
use Rattle.definitions.specs.{MAX}
use Rattle.definitions.specs.Refusal.{Refusable, refused, accepted, ◌refuses◌}
use Rattle.definitions.specs.Book.{Book}
use Rattle.definitions.specs.Tables.{Forest}
use Rattle.definitions.specs.Forest.{make_of}
use Rattle.definitions.specs.Desk.{desk}
use Rattle.papers.specs.Model.{Plain, Levelled}
use Rattle.papers.specs.Levels.{level_in, levels_at_desk}
use Rattle.papers.specs.Claim.{AsPromised, AcceptedAsPromised, OneModel}
use Rattle.definitions.proofs.Refusal.{not_accepted, all_pass}
use Rattle.papers.proofs.Levels.{check_accepted}
use Rattle.promises.proofs.Plain.OneModel as P
use Rattle.promises.proofs.Link.Tables.{book_of, forest_of}
use Rattle.promises.proofs.Link.Models.{levelled_is, in_to, in_from}
use Rattle.promises.proofs.Link.Reading.{plain_at}
use Rattle.promises.proofs.Demand.{demand_3_at_desk}

-- the book of a forest is the one that it is made of
made_of_book : (book : Book) (limit : ℕ) (f : Forest) → make_of (accepted book) limit ≡ accepted f → book ≡ f.book
made_of_book book limit f e =
    ap (λ (z : Forest). z.book)
    (all_pass ((eqb limit 0 || leb MAX limit) refuses 13 ∷ []) (forest_of book limit 0 [] 0) f e).1

pub accepted_as_promised : AcceptedAsPromised
accepted_as_promised bytes ls e limit f made = on (desk bytes) e made
  where
    on : (r : Refusable Book) → levels_at_desk r ≡ accepted ls → make_of r limit ≡ accepted f → AsPromised f limit (level_in ls)
    on (refused n) x y = absurd (not_accepted x)
    on (accepted book) x y =
        let a = check_accepted book ls x in
        let is : book ≡ f.book = made_of_book book limit f y in
        demand_3_at_desk bytes limit f made (level_in ls) (subst Plain is a.plain)
        (subst (λ (b : Book). Levelled b (level_in ls)) is a.levelled)

pub one_model : OneModel
one_model book plain k l by_k by_l g =
    let r = P.one_model (book_of book) k l (levelled_is book k by_k) (levelled_is book l by_l) g in (
      (λ x. in_from book l (plain_at book plain) g (r.0 (in_to book k (plain_at book plain) g x))),
      (λ x. in_from book k (plain_at book plain) g (r.1 (in_to book l (plain_at book plain) g x))),
    )
