-- Words  the words of a request line
-- Wrong  answers of wrong programs, of which the promises are false
pub mod Words
pub mod Wrong
