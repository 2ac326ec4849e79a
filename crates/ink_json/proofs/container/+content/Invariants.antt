use Rattle.std.proofs.Common.{◌≡◌, ◌*◌, ◌+◌, ◌≤◌, ℕ, List, [], ◌++◌, length}
use Rattle.ink_json.proofs.Common.{item, size, items_size, members_size, count, count_keys}
use Rattle.json_tape.specs.Value.{json_data, items_left, members_data}
use Rattle.ink_model.specs.Story.Grammar.{content_of, keyed_by, faults_inside, faults_by, own_after}
use Rattle.ink_json.specs.Listing.{nodes_from, nodes_by_key}
use Rattle.ink_json.specs.Reading.{Holds}
use Rattle.ink_json.proofs.container.+content.Given as goal

-- what is listed and what is left are the whole, and nothing is wrong up to here
abbrev pub invariant-read_elements-loop-next : goal.invariant-read_elements-loop-next
invariant-read_elements-loop-next l = record {
  listed : l.nodes ++ nodes_from (length l.nodes) l.number l.index (content_of l.fn.context.version (item (json_data l.here) (items_left l.left)))
      ≡ l.initial.nodes ++ nodes_from (length l.initial.nodes) l.number 0 (content_of l.fn.context.version (item (json_data l.fn.first) (items_left l.fn.items)));
  wide : count (content_of l.fn.context.version (item (json_data l.fn.first) (items_left l.fn.items))) ≡ l.index + count (content_of l.fn.context.version (item (json_data l.here) (items_left l.left)));
  names : (taken : List (List ℕ)) × Holds l.names taken
      × (faults_inside l.fn.context.version l.fn.context.nesting 0 [] (item (json_data l.fn.first) (items_left l.fn.items)) ≡ faults_inside l.fn.context.version l.fn.context.nesting l.index taken (item (json_data l.here) (items_left l.left)));
  last : own_after (json_data l.fn.first) (items_left l.fn.items) ≡ own_after (json_data l.here) (items_left l.left);
  within : l.index + items_size (item (json_data l.here) (items_left l.left)) ≤ items_size (item (json_data l.fn.first) (items_left l.fn.items));
  room : length l.nodes + items_size (item (json_data l.here) (items_left l.left)) ≤ length l.initial.nodes + items_size (item (json_data l.fn.first) (items_left l.fn.items));
}

abbrev pub decreases-read_elements-loop-next : goal.decreases-read_elements-loop-next
decreases-read_elements-loop-next l = length l.left.rest

abbrev pub invariant-read_keyed-loop-key : goal.invariant-read_keyed-loop-key
invariant-read_keyed-loop-key l = record {
  left : members_size (members_data l.key-iterator) ≤ members_size (members_data l.keys.entries);
  listed : l.nodes ++ nodes_by_key (length l.nodes) l.number (keyed_by l.fn.context.version (members_data l.key-iterator))
      ≡ l.initial.nodes ++ nodes_by_key (length l.initial.nodes) l.number (keyed_by l.fn.context.version (members_data l.keys.entries));
  many : count_keys (keyed_by l.fn.context.version (members_data l.keys.entries)) ≡ l.count + count_keys (keyed_by l.fn.context.version (members_data l.key-iterator));
  faults : (taken : List (List ℕ)) → Holds l.names taken → faults_by l.fn.context.version l.fn.context.nesting taken (members_data l.keys.entries) ≡ faults_by l.fn.context.version l.fn.context.nesting taken (members_data l.key-iterator);
  room : length l.nodes + members_size (members_data l.key-iterator) ≤ length l.initial.nodes + members_size (members_data l.keys.entries);
}

-- how much there is to read, and how far from the content itself a function is
abbrev pub decreases-read_content : goal.decreases-read_content
decreases-read_content l = 8 * size (json_data l.value.now)

abbrev pub decreases-read_only_container : goal.decreases-read_only_container
decreases-read_only_container l = 8 * size (json_data l.value.now)

abbrev pub decreases-read_element : goal.decreases-read_element
decreases-read_element l = 8 * size (json_data l.value.now) + 1

abbrev pub decreases-read_named : goal.decreases-read_named
decreases-read_named l = 8 * size (json_data l.value.now) + 1

abbrev pub decreases-read_keyed : goal.decreases-read_keyed
decreases-read_keyed l = 8 * members_size (members_data l.keys.now.entries) + 2

abbrev pub decreases-read_last : goal.decreases-read_last
decreases-read_last l = 8 * size (json_data l.last.now) + 3

abbrev pub decreases-read_elements : goal.decreases-read_elements
decreases-read_elements l = 8 * items_size (item (json_data l.first) (items_left l.items)) + 3

abbrev pub decreases-read_inside : goal.decreases-read_inside
decreases-read_inside l = 8 * items_size (item (json_data l.first) (items_left l.items)) + 4

abbrev pub decreases-read_container : goal.decreases-read_container
decreases-read_container l = 8 * items_size (items_left l.items) + 5
