-- The names of orders.
use Rattle.std.specs.Prelude.{ℕ, cond, List, Some, None, codes, Option}
use Rattle.std.specs.Str.{bytes_eq}
use Rattle.script.specs.declared.order_name.OrderName.{OrderName}
use Rattle.script.specs.declared.order_name.OrderName.TheVariants.{Same, Greatest, Delivered}

abbrev pub order_of : List ℕ → Option OrderName
order_of w =
    cond (bytes_eq w (codes "same")) (Some Same)
    (cond (bytes_eq w (codes "greatest")) (Some Greatest)
    (cond (bytes_eq w (codes "delivered")) (Some Delivered)
    None))
