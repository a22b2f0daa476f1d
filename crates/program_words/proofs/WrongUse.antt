-- The laws of the words.
use Rattle.std.proofs.Common.{◌≡◌, ◌∙◌, ◌&&◌, Bool, true, false, not, refl, ap, List, [], ◌∷◌, map, Option, Some, None, option_and_then, option_map}
use Rattle.std.specs.List.{list_all}
use Rattle.clap.proofs.WalkLemmas.{both}
use Rattle.program_words.specs.Words.{Text, Kind, plain, dashes, named, unknown, kind, Row, Item, operand, Argument, and_then_items, arguments, is_given, items, items_from}
use Rattle.program_words.specs.Rows.{uni_row}
use Rattle.program_words.specs.Commands.{set_apart, request_from}
use Rattle.program_words.specs.Laws.{UniTakesTwoFiles, WrongUses, is_plain, is_plain_kind, uni_of}

and_false : (b : Bool) → (b && false) ≡ false
and_false true = refl
and_false false = refl

pub wrong_uses : WrongUses
unfolding arguments
wrong_uses = record {
  no_words = refl;
  unknown_command = λ word words none. rw none refl;
  too_few = λ row given before missing. rw missing refl;
  too_many = λ row given before value rest none. rw none refl;
  unknown_option = λ row given before name value rest none. rw none refl;
  twice = λ row given before name value rest p some had. rw (some, had) refl;
  operand_out_of_bounds = λ row given before value rest p some out. rw (some, out, and_false (not (is_given p.name given))) refl;
  option_out_of_bounds = λ row given before name value rest p some out. rw (some, out, and_false (not (is_given p.name given))) refl;
}

item_plain : (k : Kind) (word : Text) (words : List Text) (next : Option Text → Option (List Item)) → is_plain_kind k ≡ true → next None ≡ Some (map operand words)
    → items_from k word words next ≡ Some (map operand (word ∷ words))
item_plain plain word words next is later = ap (and_then_items (operand word)) later
item_plain dashes word words next is later = absurd (cc)
item_plain (named name value) word words next is later = absurd (cc)
item_plain unknown word words next is later = absurd (cc)

items_plain : (words : List Text) → list_all is_plain words ≡ true → items None words ≡ Some (map operand words)
unfolding items
items_plain [] all = refl
items_plain (word ∷ words) all = item_plain (kind word) word words (λ wanting. items wanting words) (both _ _ all).0 (items_plain words (both _ _ all).1)

uni_arguments : (words : List Text)
    → option_and_then set_apart (option_and_then (λ (given : List Argument). request_from uni_row given) (arguments uni_row [] 0 (map operand words))) ≡ uni_of words
unfolding arguments
uni_arguments [] = refl
uni_arguments (image ∷ []) = refl
uni_arguments (image ∷ script ∷ []) = refl
uni_arguments (image ∷ script ∷ more ∷ rest) = refl

uni_row_found : (given : Option (List Argument))
    → option_and_then (λ (r : Row × List Argument). request_from r.0 r.1) (option_map (λ (g : List Argument). (uni_row, g)) given) ≡ option_and_then (λ (g : List Argument). request_from uni_row g) given
uni_row_found None = refl
uni_row_found (Some g) = refl

pub uni_takes_two_files : UniTakesTwoFiles
uni_takes_two_files words all =
    ap (option_and_then set_apart) (uni_row_found (option_and_then (arguments uni_row [] 0) (items None words))
    ∙ ap (λ (is : Option (List Item)). option_and_then (λ (g : List Argument). request_from uni_row g) (option_and_then (arguments uni_row [] 0) is)) (items_plain words all))
    ∙ uni_arguments words
