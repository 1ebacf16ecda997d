-- Goes   one more line of a bit row, by its bars
-- Wrong  answers of wrong programs, of which the promise is false
pub mod Goes
pub mod Wrong
